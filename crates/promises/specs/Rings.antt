-- Who is told to give back, and how long a ring stays. Assumes nothing.
use Rattle.std.specs.Prelude.{ℕ, ◌⊎◌, List}
use Rattle.messages.specs.declared.yard.Engine.{Engine}
use Rattle.journal.specs.declared.output.Output.TheVariants as output
use Rattle.world.specs.declared.step.Step.{Step}
use Rattle.world.specs.World.{Answer, Makes, World}
use Rattle.world.specs.Runs.{Highest, IsTold, OneOf, Reached, Ring, Says}

-- Whoever is told to give back stands in a ring of that moment, has its highest own sign, and no other of the ring has been told.
abbrev pub ToldInARing : Type 0
ToldInARing = (w u : World) (s : Step) (a : Answer) (i : Engine) → Reached w → Makes w s (u, a) → Says a (output.GiveBack i)
    → (ring : List ℕ) × Ring w ring × Highest w ring i.0 × ((j : ℕ) → OneOf j ring → IsTold w j → ⊥)

-- A ring stays a ring, unless one of it had been told.
abbrev pub RingStays : Type 0
RingStays = (w u : World) (s : Step) (a : Answer) (ring : List ℕ) → Reached w → Makes w s (u, a) → Ring w ring
    → Ring u ring ⊎ ((j : ℕ) × OneOf j ring × IsTold w j)
