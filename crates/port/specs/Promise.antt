-- WHAT IS PROMISED OF EVERY STEP. Assumes nothing.
use Rattle.std.specs.Prelude.{◌≡◌, ℕ, ◌⊎◌, List, ◌∷◌, map, Some, ◌≢◌}
use Rattle.messages.specs.declared.yard.Engine.{Engine}
use Rattle.messages.specs.declared.yard.Section.{Section}
use Rattle.journal.specs.declared.output.Output.TheVariants as output
use Rattle.home.specs.Queries.{engine}
use Rattle.world.specs.World.{Answer, World}
use Rattle.world.specs.Runs.{Highest, IsTold, OneOf, Ring, Says, holder_in, queue_in}
use Rattle.port.specs.Walk.{ring_from}

-- a ring that begins with an engine, and the same that the walk from there finds
abbrev pub RingFrom : World → Engine → List ℕ → Type 0
RingFrom w i others = Ring w (i.0 ∷ others) × (ring_from w i ≡ Some (i ∷ map engine others))

-- of a step from the world w to u, with the answer a
pub record Promised (w u : World) (a : Answer) : Type 0 where
  -- whoever is told to give back stands in a ring of engines each of which stands in the queue of a section that the next one has;
  -- it has the ring's highest own sign, and no other of it has been told; the ring is there before the step and after it, and is what is found from the one told
  pub told : (i : Engine) → Says a (output.GiveBack i)
      → (others : List ℕ) × RingFrom w i others × RingFrom u i others × Highest w (i.0 ∷ others) i.0 × ((j : ℕ) → OneOf j (i.0 ∷ others) → IsTold w j → ⊥)
  -- a ring stays a ring, unless one of it had been told
  pub stays : (ring : List ℕ) → Ring w ring → Ring u ring ⊎ ((j : ℕ) × OneOf j ring × IsTold w j)
  -- who has a section after another was first of its queue
  pub first : (s : Section) (i j : ℕ) → holder_in w s ≡ Some i → holder_in u s ≡ Some j → (i ≢ j) → (rest : List ℕ) × (queue_in w s ≡ j ∷ rest)
  -- who is said to have a section has it, before the step and after it
  pub had : (e : Engine) (s : Section) → Says a (output.Had e s) → (holder_in w s ≡ Some e.0) × (holder_in u s ≡ Some e.0)
