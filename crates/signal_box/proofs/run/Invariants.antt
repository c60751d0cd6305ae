-- The place for what is read keeps its size.
use Rattle.std.proofs.Common.{◌≡◌, length}
use Rattle.signal_box.proofs.run.Given as goal

abbrev pub invariant-loop : goal.invariant-loop
invariant-loop l = length l.chunk ≡ 65536
