-- A queue in memory is an array with a count, and beside it a 64-bit word as the set of its engines.
use Rattle.std.specs.Prelude.{◌≡◌, ℕ, ◌<◌, ◌≤◌, Bool, List, length, ◌==◌}
use Rattle.std.specs.Int.{bit_at}
use Rattle.sections.specs.Table.{is_in}

-- does a 64-bit set hold an engine
abbrev pub holds : ℕ → ℕ → Bool
holds word engine = bit_at word engine == 1

-- the set's bit e is set exactly if e is in the queue
abbrev pub Matches : ℕ → List ℕ → Type 0
Matches word queue = (engine : ℕ) → engine < 64 → holds word engine ≡ is_in engine queue

-- a queue is no longer than its array
abbrev pub Fits : ℕ → List ℕ → Type 0
Fits count engines = count ≤ length engines
