-- The own sign is the lowest that is above the sign shown and leaves the engine's number.
-- Assumes nothing.
use Rattle.std.specs.Prelude.{◌≡◌, ℕ, ◌%◌, ◌<◌, ◌≤◌}

-- sign is above the one shown, leaves me when divided by engines, and no number between does
pub record Lowest (shown me engines sign : ℕ) : Type 0 where
  pub above : shown < sign
  pub leaves : sign % engines ≡ me
  pub lowest : (other : ℕ) → shown < other → other % engines ≡ me → sign ≤ other
