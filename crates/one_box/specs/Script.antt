-- A script's lines: what each means, and how each is written.
use Rattle.std.specs.Prelude.{◌≡◌, ℕ, ◌+◌, ◌*◌, ◌<◌, cond, ◌&&◌, List, [], ◌∷◌, ◌++◌, Some, None, codes, decimal, Option, ◌==◌, nat_le}
use Rattle.std.specs.Option.{option_map}
use Rattle.std.specs.Str.{bytes_eq}
use Rattle.words.specs.Words.{after_of, digit_of}
use Rattle.one_box.specs.declared.script.Verb.{Verb}
use Rattle.one_box.specs.declared.script.Verb.TheVariants.{Take, Free, GiveUp}
use Rattle.one_box.specs.declared.script.Call.{Call}
use Rattle.one_box.specs.declared.script.Line.{Line}
use Rattle.one_box.specs.declared.script.Line.TheVariants.{Passed, Called, Show}

abbrev pub two_digits : Option ℕ → Option ℕ → Option ℕ
two_digits None ones = None
two_digits (Some tens) None = None
two_digits (Some tens) (Some ones) = cond (tens == 0) None (Some (tens * 10 + ones))

-- a number of one digit or of two, the first of which is not 0
abbrev pub number_of : List ℕ → Option ℕ
number_of [] = None
number_of (a ∷ []) = digit_of a
number_of (a ∷ b ∷ []) = two_digits (digit_of a) (digit_of b)
number_of (a ∷ b ∷ c ∷ more) = None

abbrev pub place_of : Option (List ℕ) → Option ℕ
place_of None = None
place_of (Some text) = number_of text

abbrev pub call_by : Verb → Option ℕ → Option ℕ → Option Call
call_by verb None place = None
call_by verb (Some engine) None = None
call_by verb (Some engine) (Some place) = Some (record { verb = verb; engine = engine; place = place })

-- an engine and a section of box 0: `E 0:P`
abbrev pub call_of : Verb → List ℕ → Option Call
call_of verb [] = None
call_of verb (e ∷ rest) = call_by verb (digit_of e) (place_of (after_of (codes " 0:") rest))

abbrev pub verbed : Verb → Option (List ℕ) → Option Call → Option Call
verbed verb None otherwise = otherwise
verbed verb (Some text) otherwise = call_of verb text

-- the call that a line asks for
abbrev pub command_of : List ℕ → Option Call
command_of line =
    verbed Take (after_of (codes "take ") line) (verbed Free (after_of (codes "free ") line) (verbed GiveUp (after_of (codes "give up ") line) None))

-- a line of the script; an empty one, and one that begins with #, is passed over
abbrev pub line_of : List ℕ → Option Line
line_of [] = Some Passed
line_of (x ∷ xs) = cond (x == 35) (Some Passed) (cond (bytes_eq (x ∷ xs) (codes "show")) (Some Show) (option_map Called (command_of (x ∷ xs))))

abbrev pub engines_by : Option ℕ → Option ℕ
engines_by None = None
engines_by (Some n) = cond (nat_le 1 n && nat_le n 8) (Some n) None

-- the first line, `yard 1 ENGINES`: one to eight engines
abbrev pub yard_of : List ℕ → Option ℕ
yard_of line = engines_by (place_of (after_of (codes "yard 1 ") line))

abbrev pub verb_text : Verb → List ℕ
verb_text Take = codes "take "
verb_text Free = codes "free "
verb_text GiveUp = codes "give up "

-- how a call is written
abbrev pub call_text : Call → List ℕ
call_text call = verb_text call.verb ++ (decimal call.engine ++ (codes " 0:" ++ decimal call.place))

-- A call that is written is read as it was meant: an engine below 10, a place below 100.
abbrev pub ReadsBack : Type 0
ReadsBack = (call : Call) → call.engine < 10 → call.place < 100 → line_of (call_text call) ≡ Some (Called call)
