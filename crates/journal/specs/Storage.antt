-- What is left of a file. Assumes nothing.
use Rattle.std.specs.Prelude.{ℕ, ◌≤◌, List, take}

-- of the bytes xs, the first n of them synced: all that was synced, and some first part of the rest
abbrev pub Remains : (List ℕ → ℕ → Type 0) → List ℕ → ℕ → Type 0
Remains holds xs n = (k : ℕ) × (n ≤ k) × holds (take k xs) n
