use Rattle.std.proofs.Common.{◌≡◌, ◌+◌, ◌*◌, ◌++◌, drop}
use Rattle.lines.specs.Digits.{hex_of}
use Rattle.lines.specs.Written.{bytes_of}
use Rattle.lines.proofs.line.writing.hex.Given as goal

abbrev pub invariant-loop-b : goal.invariant-loop-b
invariant-loop-b l =
    (bytes_of l.out ++ hex_of (drop l.b-index l.message) ≡ bytes_of l.initial.out ++ hex_of l.message)
    × (l.out.used ≡ l.initial.out.used + 2 * l.b-index)
