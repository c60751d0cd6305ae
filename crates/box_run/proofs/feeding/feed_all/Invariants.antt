-- What the lines that are left will give is what all give.
use Rattle.std.proofs.Common.{length}
use Rattle.boxes.specs.Log.{Log, log_of}
use Rattle.boxes.specs.Model.{State, state_of}
use Rattle.box_run.specs.Lines.{lines_in}
use Rattle.box_run.specs.Serve.{FedEach}
use Rattle.box_run.proofs.feeding.feed_all.Given as goal

abbrev pub invariant-loop-line : goal.invariant-loop-line
invariant-loop-line l = (q : State × Log) → FedEach (lines_in l.rest) (state_of l.state, log_of l.effects) q
    → FedEach (lines_in l.text) (state_of l.initial.state, log_of l.initial.effects) q

abbrev pub decreases-loop-line : goal.decreases-loop-line
decreases-loop-line l = length l.rest
