-- The lines that a box prints. Assumes nothing.
use Rattle.std.specs.Prelude.{ℕ, Bool, false, cond, List, [], ◌∷◌, ◌++◌, Some, None, codes, decimal, Option, ◌==◌}
use Rattle.messages.specs.declared.yard.BoxNumber.{BoxNumber}
use Rattle.messages.specs.declared.yard.Section.{Section}
use Rattle.messages.specs.Table as wire
use Rattle.messages.specs.Table.{refusal_number}
use Rattle.lines.specs.Lines.{written}
use Rattle.journal.specs.declared.output.Output.{Output}
use Rattle.journal.specs.declared.output.Output.TheVariants as output

-- a number of one byte in decimal
abbrev pub digits : ℕ → List ℕ
digits n = decimal n

-- a section: its box, a colon, and its place
abbrev pub section_text : Section → List ℕ
section_text s = digits s.keeper.0 ++ 58 ∷ digits s.place

-- a word, and a number
abbrev pub numbered : List ℕ → ℕ → List ℕ
numbered word n = word ++ digits n

abbrev pub text_or : Option (List ℕ) → List ℕ
text_or None = []
text_or (Some xs) = xs

-- the line of an output
abbrev pub line_for : Output → List ℕ
line_for (output.Send to m) = text_or (written to (wire.bytes_of m))
line_for (output.Had e s) = numbered (codes "had ") e.0 ++ 32 ∷ section_text s
line_for (output.GiveBack e) = numbered (codes "give back ") e.0
line_for (output.GivingBack e) = numbered (codes "giving back ") e.0
line_for (output.Refused r) = numbered (codes "refused ") (refusal_number r)

-- is it for the box itself
abbrev pub is_own : BoxNumber → Output → Bool
is_own own (output.Send to m) = to.0 == own.0
is_own own (output.Had e s) = false
is_own own (output.GiveBack e) = false
is_own own (output.GivingBack e) = false
is_own own (output.Refused r) = false

-- what is printed of an output: its line and a newline; of what the box sends to itself, nothing
abbrev pub printed : BoxNumber → Output → List ℕ
printed own o = cond (is_own own o) [] (line_for o ++ 10 ∷ [])
