-- What is written of a message that was read. Assumes nothing.
use Rattle.std.specs.Prelude.{List, ◌⊎◌, ◌≡◌, ℕ, length, take}
use Rattle.messages.specs.declared.yard.Yard.{Yard}
use Rattle.messages.specs.declared.message.Message.{Message}
use Rattle.messages.specs.Range.{MessageIn}
use Rattle.messages.specs.Table.{bytes_of}

-- nothing, or the same bytes again
abbrev pub Again : List ℕ → List ℕ → ℕ → Type 0
Again xs out n = (n ≡ 0) ⊎ ((n ≡ length xs) × (take n out ≡ xs))

-- the bytes of a message that is in range in a yard of so many boxes and engines
abbrev pub IsMessage : ℕ → ℕ → List ℕ → Type 0
IsMessage boxes engines xs = (y : Yard) × (m : Message) × (y.boxes ≡ boxes) × (y.engines ≡ engines) × MessageIn y m × (bytes_of m ≡ xs)
