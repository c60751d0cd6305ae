-- one more at the end of the array's front, and its bit in the set
use Rattle.std.proofs.Common.{◌||◌, eqb, sym, ap, ◌∙◌, inl, inr, arith, length-set}
use Rattle.std.proofs.lemmas.Bool.{eqb-true, or_cases}
use Rattle.std.proofs.lemmas.List.{take_more_set}
use Rattle.sections.specs.Queues.{engines_of}
use Rattle.sections.specs.Table.{is_in}
use Rattle.sections.proofs.Lists.{is_in_push, once_push, room}
use Rattle.sections.proofs.Words.{holds_set}
use Rattle.sections.proofs.queue.Queue.join.Goals as goal

pub bounds-self-self : goal.bounds-self-self
bounds-self-self c =
    let q = c.args.self.now in
    room c.args.engine q.count q.engines q.fits c.requires.known c.requires.absent q.twice q.waiters

pub invariant_of-self : goal.invariant_of-self
invariant_of-self c =
    let q = c.args.self.now in
    let e = c.args.engine in
    let below = room e q.count q.engines q.fits c.requires.known c.requires.absent q.twice q.waiters in
    let more = take_more_set q.engines q.count e (omega (arith, below)) in
    record {
      fits = omega (arith, below, length-set q.engines q.count e);
      matched = λ y h. holds_set q.«set» e y c.requires.known ∙ ap (λ t. eqb e y || t) (q.matched y h) ∙ sym (is_in_push y e (engines_of q)) ∙ sym (ap (is_in y) more);
      twice = rw more (once_push e (engines_of q) q.twice c.requires.absent);
      waiters = λ y w. elim (or_cases (eqb e y) (is_in y (engines_of q)) (sym (is_in_push y e (engines_of q)) ∙ sym (ap (is_in y) more) ∙ w)) [ inl k ↦ rw (eqb-true e y k) at c.requires.known | inr k ↦ q.waiters y k ];
    }
