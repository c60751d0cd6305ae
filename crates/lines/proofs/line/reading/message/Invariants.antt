use Rattle.std.proofs.Common.{◌≡◌, ◌/◌, ◌%◌, ◌≤◌, length, drop}
use Rattle.lines.specs.Written.{bytes_of}
use Rattle.lines.proofs.Pairs.{joined, paired}
use Rattle.lines.proofs.line.reading.message.Given as goal

abbrev pub invariant-loop-high : goal.invariant-loop-high
invariant-loop-high l =
    (joined (bytes_of l.out) (paired (drop l.high-index l.pairs)) ≡ paired l.pairs)
    × (l.out.used ≡ l.high-index)
    × (length l.text % 2 ≡ 0)
    × (length l.text / 2 ≤ 21)
