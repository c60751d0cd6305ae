-- After each turn the engines so far have heard of the change.
use Rattle.std.proofs.Common.{◌≡◌, length}
use Rattle.home.specs.Queries.{engine}
use Rattle.boxes.specs.Log.{Log, log_of, each}
use Rattle.boxes.specs.Model.{State, state_of}
use Rattle.boxes.specs.Handle.{change_for}
use Rattle.boxes.proofs.signal_box.SignalBox.change.Given as goal

abbrev pub invariant-loop-engine : goal.invariant-loop-engine
invariant-loop-engine l =
    ◌≡◌ {A = State × Log} (state_of l.self, log_of l.effects)
    (each (λ n. change_for l.change.section l.change.holder l.change.change (engine n)) (length l.yielded) (state_of l.initial.self, log_of l.initial.effects))
