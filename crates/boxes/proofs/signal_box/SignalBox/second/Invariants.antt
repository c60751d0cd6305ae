-- After each turn the engines so far have said all again.
use Rattle.std.proofs.Common.{◌≡◌, length}
use Rattle.home.specs.Queries.{engine}
use Rattle.boxes.specs.Log.{log_of, each}
use Rattle.boxes.specs.Handle.{second_for}
use Rattle.boxes.proofs.signal_box.SignalBox.second.Given as goal

abbrev pub invariant-loop-engine : goal.invariant-loop-engine
invariant-loop-engine l = log_of l.effects ≡ each (λ n. second_for l.self.home (engine n)) (length l.yielded) (log_of l.initial.effects)
