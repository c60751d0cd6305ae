-- One line more at each turn.
use Rattle.std.proofs.Common.{ℕ, List, sym, subst}
use Rattle.boxes.specs.Log.{log_of}
use Rattle.boxes.specs.Model.{state_of}
use Rattle.box_run.specs.Serve.{FedEach}
use Rattle.box_run.proofs.feeding.feed_all.Goals as goal

pub loop-line-preserved : goal.loop-line-preserved
loop-line-preserved c = λ q f.
    let P : List (List ℕ) → Type 0 = λ ls. FedEach ls (state_of c.loop-line.state, log_of c.loop-line.effects) q in
    c.loop-line.invariant q (subst P (sym c.in-Some.ensures.line) ((state_of c.feed.new.state, log_of c.feed.new.effects), c.in_ok-feed.ensures, f))
