-- WHAT IS PROMISED OF EACH STEP of every world that steps lead to: turns, stops, cut and doubled messages, what is turned away. Assumes nothing.
use Rattle.std.specs.Prelude.{◌≡◌, ℕ, true, ◌⊎◌, List, [], ◌∷◌, ◌++◌, length, Ok, Err, ◌≢◌, Some}
use Rattle.messages.specs.declared.yard.BoxNumber.{BoxNumber}
use Rattle.messages.specs.declared.yard.Engine.{Engine}
use Rattle.messages.specs.declared.yard.Section.{Section}
use Rattle.messages.specs.declared.message.Message.{Message}
use Rattle.messages.specs.declared.message.Refusal.{Refusal}
use Rattle.messages.specs.declared.message.Refusal.TheVariants as refusal
use Rattle.messages.specs.Table.{bytes_of}
use Rattle.journal.specs.declared.output.Output.{Output}
use Rattle.journal.specs.declared.output.Output.TheVariants as output
use Rattle.box_laws.specs.Away.{IsReport}
use Rattle.world.specs.declared.step.Step.{Step}
use Rattle.world.specs.declared.step.Step.TheVariants as step
use Rattle.world.specs.World.{Answer, Makes, World, is_box, message_at, station_at}
use Rattle.world.specs.Runs.{OneOf, Reached, holder_in, queue_in, table_in}

-- one comes before another in a queue
abbrev pub Before : ℕ → ℕ → List ℕ → Type 0
Before i j queue = (front rest : List ℕ) × (queue ≡ front ++ i ∷ rest) × OneOf j rest

-- Who has a section after another was first of its queue; and who came later never is before.
abbrev pub AlwaysInTurn : Type 0
AlwaysInTurn = (w u : World) (s : Step) (a : Answer) (place : Section) → Reached w → Makes w s (u, a)
    → ((i j : ℕ) → holder_in w place ≡ Some i → holder_in u place ≡ Some j → (i ≢ j) → (rest : List ℕ) × (queue_in w place ≡ j ∷ rest))
    × ((i j : ℕ) → Before i j (queue_in w place) → OneOf i (queue_in u place) → OneOf j (queue_in u place) → Before i j (queue_in u place))

-- a box has the same stored as before, and nothing was sent: holders, queues, change numbers, last calls and answers; signs, counts, modes and last numbers; its file
abbrev pub StoredAsBefore : World → World → BoxNumber → Type 0
StoredAsBefore w u n = ((station_at u n).state.keeper ≡ (station_at w n).state.keeper)
    × ((station_at u n).state.home.signs ≡ (station_at w n).state.home.signs) × ((station_at u n).state.home.stored ≡ (station_at w n).state.home.stored)
    × ((station_at u n).file ≡ (station_at w n).file) × (u.sent ≡ w.sent)

-- A box that stops comes up; with the same holders, queues, change numbers, last calls and answers; its engines with the same signs, counts and last numbers.
abbrev pub SameAfterAStop : Type 0
SameAfterAStop = (w : World) (n : BoxNumber) → Reached w → is_box w n ≡ true
    → ((u : World) × (a : Answer) × Makes w (step.Stop n) (u, a)) × ((u : World) (a : Answer) → Makes w (step.Stop n) (u, a) → StoredAsBefore w u n)

-- A message that was cut short is turned away by 1, and nothing changes.
abbrev pub CutChangesNothing : Type 0
CutChangesNothing = (w u : World) (m n : ℕ) (a : Answer) → Reached w → Makes w (step.Cut m n) (u, a)
    → (u ≡ w) × ((a ≡ Err refusal.Malformed) ⊎ (a ≡ Ok ((message_at w m).to, length w.sent, output.Refused refusal.Malformed ∷ [])))

-- The same message again changes no box.
abbrev pub AgainChangesNothing : Type 0
AgainChangesNothing = (w u v : World) (m : ℕ) (a b : Answer) → Reached w → Makes w (step.Deliver m) (u, a) → Makes u (step.Deliver m) (v, b) → v.stations ≡ u.stations

-- what is refused first
abbrev pub TurnedAwayBy : Answer → Refusal → Type 0
TurnedAwayBy (Err r) q = r ≡ q
TurnedAwayBy (Ok a) q = (rest : List Output) × (a.2 ≡ output.Refused q ∷ rest)

-- every box has its sections and its engines as they were
abbrev pub SameSectionsAndEngines : World → World → Type 0
SameSectionsAndEngines w u = (n : BoxNumber) → (table_in u n ≡ table_in w n) × ((station_at u n).state.home ≡ (station_at w n).state.home)

-- A line that is turned away changes nothing; a message that is turned away changes no section and no engine (a refused call uses up its number).
abbrev pub AlwaysTurnedAway : Type 0
AlwaysTurnedAway = (w u : World) (a : Answer) (q : Refusal) → Reached w → TurnedAwayBy a q
    → ((e : Engine) (s : Section) → Makes w (step.Take e s) (u, a) → u ≡ w) × ((e : Engine) (s : Section) → Makes w (step.Free e s) (u, a) → u ≡ w)
    × ((m : ℕ) (x : Message) → Makes w (step.Deliver m) (u, a) → (message_at w m).bytes ≡ bytes_of x → (IsReport x → ⊥) → SameSectionsAndEngines w u)
