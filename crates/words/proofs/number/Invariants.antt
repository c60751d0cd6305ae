-- What is left, read from the value so far, gives the number.
use Rattle.std.proofs.Common.{◌≡◌, drop}
use Rattle.words.specs.Words.{digits_from}
use Rattle.words.proofs.number.Given as goal

abbrev pub invariant-loop-byte : goal.invariant-loop-byte
invariant-loop-byte l = digits_from l.value (drop l.byte-index l.text) ≡ digits_from 0 l.text
