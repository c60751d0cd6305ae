-- What the arguments of the program ask for. Assumes nothing.
use Rattle.std.specs.Prelude.{ℕ, ◌+◌, ◌&&◌, List, Some, Option, nat_le}
use Rattle.messages.specs.Reading.{and_then, unless}
use Rattle.words.specs.Words.{short_number}
use Rattle.box_run.specs.declared.which.Which.{Which}

-- which box, of how many boxes and engines
pub record Sizes : Type 0 where
  pub number : ℕ
  pub engines : ℕ
  pub boxes : ℕ

-- a box of its yard: of 1 to 16 boxes and 1 to 64 engines
abbrev pub in_yard : ℕ → ℕ → ℕ → Option Sizes
in_yard n e b = unless ((nat_le 1 b && nat_le b 16) && ((nat_le 1 e && nat_le e 64) && nat_le (n + 1) b)) (Some (record { number = n; engines = e; boxes = b }))

-- `NUMBER ENGINES`, of sixteen boxes
abbrev pub of_sixteen : List ℕ → List ℕ → Option Sizes
of_sixteen n e = and_then (short_number n) (λ x. and_then (short_number e) (λ y. in_yard x y 16))

-- `NUMBER ENGINES BOXES`
abbrev pub of_boxes : List ℕ → List ℕ → List ℕ → Option Sizes
of_boxes n e b = and_then (short_number n) (λ x. and_then (short_number e) (λ y. and_then (short_number b) (λ z. in_yard x y z)))

abbrev pub sizes_of : Which → Sizes
sizes_of w = record { number = w.number.0; engines = w.yard.engines; boxes = w.yard.boxes }
