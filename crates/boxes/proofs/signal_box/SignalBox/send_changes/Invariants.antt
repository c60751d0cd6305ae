-- After each turn the homes so far have been told.
use Rattle.std.proofs.Common.{◌≡◌, length}
use Rattle.boxes.specs.Log.{log_of, each}
use Rattle.boxes.specs.Model.{state_of}
use Rattle.boxes.specs.Keeping.{change_to}
use Rattle.boxes.proofs.signal_box.SignalBox.send_changes.Given as goal

abbrev pub invariant-loop-to : goal.invariant-loop-to
invariant-loop-to l =
    log_of l.effects ≡ each (λ n. change_to (state_of l.self) l.change.section l.change.holder l.change.change n) (length l.yielded) (log_of l.initial.effects)
