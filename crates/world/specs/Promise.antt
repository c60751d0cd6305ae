-- WHAT IS TO BE PROMISED of every world that steps lead to. No contract names these statements yet: they are stated here over the very
-- definitions that the contracts of the steps cite, and are not proved.
use Rattle.std.specs.Prelude.{◌≡◌, ℕ, suc, true, ◌⊎◌, List, [], ◌∷◌, ◌++◌, length, Some, Ok, Err, ◌≢◌}
use Rattle.messages.specs.declared.yard.BoxNumber.{BoxNumber}
use Rattle.messages.specs.declared.yard.Engine.{Engine}
use Rattle.messages.specs.declared.yard.Section.{Section}
use Rattle.messages.specs.declared.message.Act.TheVariants as act
use Rattle.messages.specs.declared.message.Message.{Message}
use Rattle.messages.specs.declared.message.Message.TheVariants as message
use Rattle.messages.specs.declared.message.Refusal.{Refusal}
use Rattle.messages.specs.declared.message.Refusal.TheVariants as refusal
use Rattle.messages.specs.declared.message.Reply.{Reply}
use Rattle.messages.specs.declared.message.Reply.TheVariants as reply
use Rattle.messages.specs.Table.{bytes_of}
use Rattle.journal.specs.declared.output.Output.{Output}
use Rattle.journal.specs.declared.output.Output.TheVariants as output
use Rattle.engine_state.specs.declared.state.Wait.{Wait}
use Rattle.home.specs.Queries.{note_at, wait_at}
use Rattle.world.specs.declared.step.Step.{Step}
use Rattle.world.specs.declared.step.Step.TheVariants as step
use Rattle.world.specs.World.{Answer, Makes, World, is_box, is_sent, message_at, station_at}
use Rattle.world.specs.Runs.{BelowLimits, Highest, IsTold, OneOf, Reached, Ring, Run, SaidIn, Says, Taken, engine_in, holder_in, home_in, own_in, queue_in, table_in}

-- 1. Whoever is told to give back stands in a ring of that moment, has its highest own sign, and no other of the ring has been told.
abbrev pub ToldInARing : Type 0
ToldInARing = (w u : World) (s : Step) (a : Answer) (i : Engine) → Reached w → Makes w s (u, a) → Says a (output.GiveBack i)
    → (ring : List ℕ) × Ring w ring × Highest w ring i.0 × ((j : ℕ) → OneOf j ring → IsTold w j → ⊥)

-- 2. A ring stays a ring, or one of it has been told.
abbrev pub RingStays : Type 0
RingStays = (w u : World) (s : Step) (a : Answer) (ring : List ℕ) → Reached w → Makes w s (u, a) → Ring w ring
    → Ring u ring ⊎ ((j : ℕ) × OneOf j ring × IsTold u j)

-- a second, or a delivery; and how many deliveries
pub data Quiet : ℕ → List Taken → Type 0 where
  silence : Quiet 0 []
  a_second : {n : ℕ} {b : BoxNumber} {a : Answer} {more : List Taken} → Quiet n more → Quiet n (record { step = step.Second b; answer = a } ∷ more)
  a_delivery : {n m : ℕ} {a : Answer} {more : List Taken} → Quiet n more → Quiet (suc n) (record { step = step.Deliver m; answer = a } ∷ more)

-- a way of so many deliveries from a world to the telling of the one of the ring that is its highest then
abbrev pub LeadsToTelling : World → List ℕ → ℕ → Type 0
LeadsToTelling w ring n = (steps : List Taken) × (u v : World) × (s : Step) × (a : Answer) × (i : Engine)
    × Run w steps u × Makes u s (v, a) × Quiet n (steps ++ record { step = s; answer = a } ∷ []) × Says a (output.GiveBack i) × Highest u ring i.0

-- 3. Every ring of which none has been told is found by seconds and deliveries alone.
abbrev pub AlwaysFound : Type 0
AlwaysFound = (w : World) (ring : List ℕ) → Reached w → Ring w ring → ((j : ℕ) → OneOf j ring → IsTold w j → ⊥) → ((j : ℕ) → OneOf j ring → BelowLimits w j)
    → (n : ℕ) × LeadsToTelling w ring n

-- the home of i knows for whom it waits, and the home of that one knows that i waits
abbrev pub Noted : World → ℕ → ℕ → Type 0
Noted w i j = (x : Wait) × (wait_at (home_in w (record { 0 = i })) (record { 0 = i }) ≡ Some x) × (x.whom.0 ≡ j) × (holder_in w x.section ≡ Some j)
    × (note_at (home_in w (record { 0 = j })) (record { 0 = i }) ≡ Some (record { section = x.section; count = x.count }))

abbrev pub NotedChain : World → ℕ → List ℕ → ℕ → Type 0
NotedChain w i [] z = Noted w i z
NotedChain w i (j ∷ js) z = Noted w i j × NotedChain w j js z

abbrev pub NotedRing : World → List ℕ → Type 0
NotedRing w [] = ⊥
NotedRing w (i ∷ is) = NotedChain w i is i

-- 3, counted. Where every home of a ring knows who waits for whom, as many tellings as engines do.
abbrev pub FoundInOneRound : Type 0
FoundInOneRound = (w : World) (ring : List ℕ) → Reached w → Ring w ring → NotedRing w ring → ((j : ℕ) → OneOf j ring → IsTold w j → ⊥)
    → ((j : ℕ) → OneOf j ring → BelowLimits w j) → LeadsToTelling w ring (length ring)

-- a sign told by one to the next, in order; whatever else happens between
pub data ToldOn (sign : ℕ) : World → ℕ → List ℕ → List Taken → World → Type 0 where
  round : {w : World} {i : ℕ} → ToldOn sign w i [] [] w
  between : {w u v : World} {i : ℕ} {is : List ℕ} {s : Step} {a : Answer} {more : List Taken} → Makes w s (u, a) → ToldOn sign u i is more v
      → ToldOn sign w i is (record { step = s; answer = a } ∷ more) v
  told : {w u v : World} {i j m : ℕ} {js : List ℕ} {a : Answer} {more : List Taken} → Makes w (step.Deliver m) (u, a) → is_sent w m ≡ true
      → (message_at w m).bytes ≡ bytes_of (message.Sign (record { to = (record { 0 = j }); count = (engine_in w (record { 0 = j })).signs.count; by = (record { 0 = i }); sign = sign }))
      → ToldOn sign u j js more v → ToldOn sign w i (j ∷ js) (record { step = step.Deliver m; answer = a } ∷ more) v

-- the ring backwards: whoever waits for one comes after it
abbrev pub backwards : List ℕ → List ℕ
backwards [] = []
backwards (i ∷ is) = backwards is ++ i ∷ []

-- 3, in every run. Once the homes of a ring know for whom they wait, its highest, k, is told in any run in which its sign is told round once in order.
abbrev pub AlwaysFoundInEveryRun : Type 0
AlwaysFoundInEveryRun = (w v : World) (k : ℕ) (ks : List ℕ) (steps : List Taken) → Reached w → Ring w (k ∷ ks) → NotedRing w (k ∷ ks) → Highest w (k ∷ ks) k
    → ((j : ℕ) → OneOf j (k ∷ ks) → IsTold w j → ⊥) → ((j : ℕ) → OneOf j (k ∷ ks) → BelowLimits w j)
    → ToldOn (own_in w k) w k (backwards ks ++ k ∷ []) steps v → SaidIn steps (output.GiveBack (record { 0 = k }))

-- 4. Whoever is said to have a section has it, until its home sends that it frees it.
abbrev pub AlwaysHad : Type 0
AlwaysHad = (w u v : World) (s : Step) (a : Answer) (e : Engine) (place : Section) (steps : List Taken) → Reached w → Makes w s (u, a) → Says a (output.Had e place)
    → Run u steps v → ((n : ℕ) (b : BoxNumber) → SaidIn steps (output.Send b (message.Call (record { act = act.Free; engine = e; section = place; number = n }))) → ⊥)
    → (holder_in w place ≡ Some e.0) × (holder_in v place ≡ Some e.0)

-- one comes before another in a queue
abbrev pub Before : ℕ → ℕ → List ℕ → Type 0
Before i j queue = (front rest : List ℕ) × (queue ≡ front ++ i ∷ rest) × OneOf j rest

-- 5. Who has a section after another was first of its queue; and who came later never is before.
abbrev pub AlwaysInTurn : Type 0
AlwaysInTurn = (w u : World) (s : Step) (a : Answer) (place : Section) → Reached w → Makes w s (u, a)
    → ((i j : ℕ) → holder_in w place ≡ Some i → holder_in u place ≡ Some j → (i ≢ j) → (rest : List ℕ) × (queue_in w place ≡ j ∷ rest))
    × ((i j : ℕ) → Before i j (queue_in w place) → OneOf i (queue_in u place) → OneOf j (queue_in u place) → Before i j (queue_in u place))

-- 6. A box that stops comes up; with the same holders, queues, change numbers, last calls and answers; its engines with the same signs, counts and last numbers.
abbrev pub SameAfterAStop : Type 0
SameAfterAStop = (w : World) (n : BoxNumber) → Reached w → is_box w n ≡ true
    → ((u : World) × (a : Answer) × Makes w (step.Stop n) (u, a))
    × ((u : World) (a : Answer) → Makes w (step.Stop n) (u, a) → ((station_at u n).state.keeper ≡ (station_at w n).state.keeper)
    × ((station_at u n).state.home.signs ≡ (station_at w n).state.home.signs) × ((station_at u n).state.home.stored ≡ (station_at w n).state.home.stored)
    × ((station_at u n).file ≡ (station_at w n).file) × (u.sent ≡ w.sent))

-- 7. A message that was cut short is turned away by 1, and nothing changes.
abbrev pub CutChangesNothing : Type 0
CutChangesNothing = (w u : World) (m n : ℕ) (a : Answer) → Reached w → Makes w (step.Cut m n) (u, a)
    → (u ≡ w) × ((a ≡ Err refusal.Malformed) ⊎ (a ≡ Ok ((message_at w m).to, length w.sent, output.Refused refusal.Malformed ∷ [])))

-- 7. The same message again changes no box.
abbrev pub AgainChangesNothing : Type 0
AgainChangesNothing = (w u v : World) (m : ℕ) (a b : Answer) → Reached w → Makes w (step.Deliver m) (u, a) → Makes u (step.Deliver m) (v, b) → v.stations ≡ u.stations

-- what reports of a refusal elsewhere, or is heard engine by engine, is done even where a refusal is said of it
abbrev pub IsReply : Reply → Type 0
IsReply reply.Done = ⊥
IsReply reply.Waits = ⊥
IsReply (reply.Refused r) = Unit {0}

abbrev pub IsReport : Message → Type 0
IsReport (message.Call c) = ⊥
IsReport (message.Answer e n answer) = IsReply answer.reply
IsReport (message.Change news) = Unit {0}
IsReport (message.WhichChange e s) = ⊥
IsReport (message.Sign telling) = ⊥
IsReport (message.Waits waiting) = ⊥

-- what is refused first
abbrev pub TurnedAwayBy : Answer → Refusal → Type 0
TurnedAwayBy (Err r) q = r ≡ q
TurnedAwayBy (Ok a) q = (rest : List Output) × (a.2 ≡ output.Refused q ∷ rest)

-- 7. A line that is turned away changes nothing; a message that is turned away changes no section and no engine (a refused call uses up its number).
abbrev pub AlwaysTurnedAway : Type 0
AlwaysTurnedAway = (w u : World) (a : Answer) (q : Refusal) → Reached w → TurnedAwayBy a q
    → ((e : Engine) (s : Section) → Makes w (step.Take e s) (u, a) → u ≡ w) × ((e : Engine) (s : Section) → Makes w (step.Free e s) (u, a) → u ≡ w)
    × ((m : ℕ) (x : Message) → Makes w (step.Deliver m) (u, a) → (message_at w m).bytes ≡ bytes_of x → (IsReport x → ⊥) → (n : BoxNumber)
    → (table_in u n ≡ table_in w n) × ((station_at u n).state.home ≡ (station_at w n).state.home))
