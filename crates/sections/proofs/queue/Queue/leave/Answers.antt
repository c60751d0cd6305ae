-- the front of the array without the engine, and its bit cleared in the set
use Rattle.std.proofs.Common.{◌≡◌, ◌++◌, not, ◌&&◌, eqb, take, drop, sym, ap, ◌∙◌, arith, length-append}
use Rattle.std.proofs.lemmas.Bool.{and_parts}
use Rattle.std.proofs.lemmas.List.{take-append-le}
use Rattle.sections.specs.Queues.{engines_of}
use Rattle.sections.specs.Table.{is_in, without}
use Rattle.sections.proofs.Lists.{is_in_without, once_without}
use Rattle.sections.proofs.Words.{holds_clear}
use Rattle.sections.proofs.queue.Queue.leave.Goals as goal

pub invariant_of-self : goal.invariant_of-self
invariant_of-self c =
    let q = c.args.self.now in
    let e = c.args.engine in
    let u = c.close_up-self in
    let fewer : take u.result (u.new.queue ++ drop q.count q.engines) ≡ without e (engines_of q) =
    take-append-le u.result u.new.queue (drop q.count q.engines) (omega arith) ∙ u.ensures.left in
    record {
      fits = omega (arith, length-append u.new.queue (drop q.count q.engines));
      matched = λ y h. holds_clear q.«set» e y c.requires h ∙ ap (λ t. not (eqb e y) && t) (q.matched y h) ∙ sym (is_in_without y e (engines_of q)) ∙ sym (ap (is_in y) fewer);
      twice = rw fewer (once_without e (engines_of q) q.twice);
      waiters = λ y w. q.waiters y (and_parts (not (eqb e y)) (is_in y (engines_of q)) (sym (is_in_without y e (engines_of q)) ∙ sym (ap (is_in y) fewer) ∙ w)).1;
    }
