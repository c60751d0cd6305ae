-- What comes in range to a box: then its records are in range, and the same bytes again change nothing. Assumes nothing.
use Rattle.std.specs.Prelude.{◌≡◌, ℕ, ◌<◌, List, [], ◌∷◌}
use Rattle.messages.specs.declared.yard.BoxNumber.{BoxNumber}
use Rattle.messages.specs.declared.yard.Yard.{Yard}
use Rattle.messages.specs.Journal.{AllIn}
use Rattle.messages.specs.Promises.{Bytes}
use Rattle.messages.specs.Range.{MessageIn}
use Rattle.boxes.specs.declared.signal_box.Input.{Input}
use Rattle.boxes.specs.declared.signal_box.Input.TheVariants as input
use Rattle.box_laws.specs.Runs as runs
use Rattle.box_laws.specs.Runs.{Coming, after}

-- a driver's line or a second, whatever it names; a message of the yard, from one of its boxes
abbrev pub InputIn : Yard → Input → Type 0
InputIn y (input.Take e s) = Unit {0}
InputIn y (input.Free e s) = Unit {0}
InputIn y (input.Received from m) = (from.0 < y.boxes) × MessageIn y m
InputIn y input.Second = Unit {0}

-- bytes are numbers below 256, and from a box of the yard
abbrev pub ComingIn : Yard → Coming → Type 0
ComingIn y (runs.input i) = InputIn y i
ComingIn y (runs.bytes from xs) = (from.0 < y.boxes) × Bytes xs
ComingIn y runs.stop = Unit {0}

abbrev pub AllComing : Yard → List Coming → Type 0
AllComing y [] = Unit {0}
AllComing y (c ∷ cs) = ComingIn y c × AllComing y cs

-- Whatever came, what a box recorded can be written and read back.
abbrev pub RecordsInRange : Type 0
RecordsInRange = (y : Yard) (n : BoxNumber) (cs : List Coming) → n.0 < y.boxes → AllComing y cs → AllIn y (after y n cs).records

-- Whatever came, the same bytes from the same box again leave the box and its records as they were.
abbrev pub SameBytesAgain : Type 0
SameBytesAgain =
    (y : Yard) (n : BoxNumber) (cs : List Coming) (from : BoxNumber) (xs : List ℕ) → n.0 < y.boxes → AllComing y cs → from.0 < y.boxes → Bytes xs →
    after y n (runs.bytes from xs ∷ runs.bytes from xs ∷ cs) ≡ after y n (runs.bytes from xs ∷ cs)
