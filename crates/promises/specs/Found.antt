-- That every ring is found, as it is to be promised: no function carries these statements yet. Assumes nothing.
use Rattle.std.specs.Prelude.{◌≡◌, ℕ, suc, true, List, [], ◌∷◌, ◌++◌, length, Some}
use Rattle.messages.specs.declared.yard.BoxNumber.{BoxNumber}
use Rattle.messages.specs.declared.yard.Engine.{Engine}
use Rattle.messages.specs.declared.message.Message.TheVariants as message
use Rattle.messages.specs.Table.{bytes_of}
use Rattle.journal.specs.declared.output.Output.TheVariants as output
use Rattle.engine_state.specs.declared.state.Wait.{Wait}
use Rattle.home.specs.Queries.{note_at, wait_at}
use Rattle.world.specs.declared.step.Step.{Step}
use Rattle.world.specs.declared.step.Step.TheVariants as step
use Rattle.world.specs.World.{Answer, Makes, World, is_sent, message_at}
use Rattle.world.specs.Runs.{BelowLimits, Highest, IsTold, OneOf, Reached, Ring, Run, SaidIn, Says, Taken, engine_in, holder_in, home_in, own_in}

-- a second, or a delivery; and how many deliveries
pub data Quiet : ℕ → List Taken → Type 0 where
  silence : Quiet 0 []
  a_second : {n : ℕ} {b : BoxNumber} {a : Answer} {more : List Taken} → Quiet n more → Quiet n (record { step = step.Second b; answer = a } ∷ more)
  a_delivery : {n m : ℕ} {a : Answer} {more : List Taken} → Quiet n more → Quiet (suc n) (record { step = step.Deliver m; answer = a } ∷ more)

-- a way of so many deliveries from a world to the telling of the one of the ring that is its highest then
abbrev pub LeadsToTelling : World → List ℕ → ℕ → Type 0
LeadsToTelling w ring n = (steps : List Taken) × (u v : World) × (s : Step) × (a : Answer) × (i : Engine)
    × Run w steps u × Makes u s (v, a) × Quiet n (steps ++ record { step = s; answer = a } ∷ []) × Says a (output.GiveBack i) × Highest u ring i.0

-- Every ring of which none has been told is found by seconds and deliveries alone.
abbrev pub AlwaysFound : Type 0
AlwaysFound = (w : World) (ring : List ℕ) → Reached w → Ring w ring → ((j : ℕ) → OneOf j ring → IsTold w j → ⊥) → ((j : ℕ) → OneOf j ring → BelowLimits w j)
    → (n : ℕ) × LeadsToTelling w ring n

-- the home of i knows for whom it waits, and the home of that one knows that i waits
abbrev pub Noted : World → ℕ → ℕ → Type 0
Noted w i j = (x : Wait) × (wait_at (home_in w (record { 0 = i })) (record { 0 = i }) ≡ Some x) × (x.whom.0 ≡ j) × (holder_in w x.section ≡ Some j)
    × (note_at (home_in w (record { 0 = j })) (record { 0 = i }) ≡ Some (record { section = x.section; count = x.count }))

abbrev pub NotedChain : World → ℕ → List ℕ → ℕ → Type 0
NotedChain w i [] z = Noted w i z
NotedChain w i (j ∷ js) z = Noted w i j × NotedChain w j js z

abbrev pub NotedRing : World → List ℕ → Type 0
NotedRing w [] = ⊥
NotedRing w (i ∷ is) = NotedChain w i is i

-- counted. Where every home of a ring knows who waits for whom, as many tellings as engines do.
abbrev pub FoundInOneRound : Type 0
FoundInOneRound = (w : World) (ring : List ℕ) → Reached w → Ring w ring → NotedRing w ring → ((j : ℕ) → OneOf j ring → IsTold w j → ⊥)
    → ((j : ℕ) → OneOf j ring → BelowLimits w j) → LeadsToTelling w ring (length ring)

-- a sign told by one to the next, in order; whatever else happens between
pub data ToldOn (sign : ℕ) : World → ℕ → List ℕ → List Taken → World → Type 0 where
  round : {w : World} {i : ℕ} → ToldOn sign w i [] [] w
  between : {w u v : World} {i : ℕ} {is : List ℕ} {s : Step} {a : Answer} {more : List Taken} → Makes w s (u, a) → ToldOn sign u i is more v
      → ToldOn sign w i is (record { step = s; answer = a } ∷ more) v
  told : {w u v : World} {i j m : ℕ} {js : List ℕ} {a : Answer} {more : List Taken} → Makes w (step.Deliver m) (u, a) → is_sent w m ≡ true
      → (message_at w m).bytes ≡ bytes_of (message.Sign (record { to = (record { 0 = j }); count = (engine_in w (record { 0 = j })).signs.count; by = (record { 0 = i }); sign = sign }))
      → ToldOn sign u j js more v → ToldOn sign w i (j ∷ js) (record { step = step.Deliver m; answer = a } ∷ more) v

-- the ring backwards: whoever waits for one comes after it
abbrev pub backwards : List ℕ → List ℕ
backwards [] = []
backwards (i ∷ is) = backwards is ++ i ∷ []

-- in every run. Once the homes of a ring know for whom they wait, its highest, k, is told in any run in which its sign is told round once in order.
abbrev pub AlwaysFoundInEveryRun : Type 0
AlwaysFoundInEveryRun = (w v : World) (k : ℕ) (ks : List ℕ) (steps : List Taken) → Reached w → Ring w (k ∷ ks) → NotedRing w (k ∷ ks) → Highest w (k ∷ ks) k
    → ((j : ℕ) → OneOf j (k ∷ ks) → IsTold w j → ⊥) → ((j : ℕ) → OneOf j (k ∷ ks) → BelowLimits w j)
    → ToldOn (own_in w k) w k (backwards ks ++ k ∷ []) steps v → SaidIn steps (output.GiveBack (record { 0 = k }))
