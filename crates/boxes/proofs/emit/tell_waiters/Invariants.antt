-- After each turn the waiters so far have been told.
use Rattle.std.proofs.Common.{◌≡◌, length}
use Rattle.home.specs.Queries.{engine}
use Rattle.boxes.specs.Log.{log_of, each}
use Rattle.boxes.specs.Emit.{tell_of}
use Rattle.boxes.proofs.emit.tell_waiters.Given as goal

abbrev pub invariant-loop-to : goal.invariant-loop-to
invariant-loop-to l = log_of l.effects ≡ each (λ n. tell_of l.home l.by l.sign (engine n)) (length l.yielded) (log_of l.initial.effects)
