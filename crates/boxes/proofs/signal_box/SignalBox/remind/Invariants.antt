-- After each turn the engines so far have been reminded.
use Rattle.std.proofs.Common.{◌≡◌, length}
use Rattle.home.specs.Queries.{engine}
use Rattle.boxes.specs.Log.{log_of, each}
use Rattle.boxes.specs.Handle.{reminder_for}
use Rattle.boxes.proofs.signal_box.SignalBox.remind.Given as goal

abbrev pub invariant-loop-engine : goal.invariant-loop-engine
invariant-loop-engine l = log_of l.effects ≡ each (λ n. reminder_for l.self.home (engine n)) (length l.yielded) (log_of l.initial.effects)
