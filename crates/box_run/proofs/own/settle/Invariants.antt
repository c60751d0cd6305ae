-- What settling from here on will give is what it gives from the start.
use Rattle.std.proofs.Common.{◌-◌, ◌^◌}
use Rattle.boxes.specs.Log.{Log, log_of}
use Rattle.boxes.specs.Model.{State, state_of}
use Rattle.box_run.specs.Own.{Settles}
use Rattle.box_run.proofs.own.settle.Given as goal

abbrev pub invariant-loop-at : goal.invariant-loop-at
invariant-loop-at l = (q : State × Log) → Settles l.own l.at (state_of l.state, log_of l.effects) q
    → Settles l.own l.initial.at (state_of l.initial.state, log_of l.initial.effects) q

abbrev pub decreases-loop-at : goal.decreases-loop-at
decreases-loop-at l = 2 ^ 64 - l.at
