-- Runs of boxes together, and what is read of a world: who has a section, who waits for whom, rings. Assumes nothing.
use Rattle.std.specs.Prelude.{◌≡◌, ℕ, ◌+◌, ◌^◌, ◌<◌, ◌≤◌, List, [], ◌∷◌, ◌++◌, Ok, Err, slice_index, Some}
use Rattle.messages.specs.declared.yard.BoxNumber.{BoxNumber}
use Rattle.messages.specs.declared.yard.Engine.{Engine}
use Rattle.messages.specs.declared.yard.Section.{Section}
use Rattle.messages.specs.declared.yard.Yard.{Yard}
use Rattle.messages.specs.declared.message.Act.TheVariants as act
use Rattle.journal.specs.declared.output.Output.{Output}
use Rattle.sections.specs.Table.{Holder}
use Rattle.sections.specs.Table as table
use Rattle.engine_state.specs.declared.state.Mode.TheVariants as mode
use Rattle.engine_state.specs.declared.state.State.{State}
use Rattle.home.specs.declared.home.Home.{Home}
use Rattle.home.specs.Home.{at}
use Rattle.messages.specs.Homes.{home_of}
use Rattle.world.specs.declared.step.Step.{Step}
use Rattle.world.specs.World.{Answer, Makes, World, empty, station_at}

-- a step that was taken: what it was, and what was answered
pub record Taken : Type 0 where
  pub step : Step
  pub answer : Answer

-- the steps of a run, from a world to a world
pub data Run : World → List Taken → World → Type 0 where
  nothing : {w : World} → Run w [] w
  then : {w u v : World} {s : Step} {a : Answer} {more : List Taken} → Makes w s (u, a) → Run u more v → Run w (record { step = s; answer = a } ∷ more) v

-- a world that steps, whatever they are, lead to from the one in which nothing has happened
abbrev pub Reached : World → Type 0
Reached w = (y : Yard) × (steps : List Taken) × Run (empty y) steps w

-- something is one of a list
abbrev pub OneOf : {A : Type 0} → A → List A → Type 0
OneOf {A} x xs = (before : List A) × (after : List A) × (xs ≡ before ++ x ∷ after)

-- a box said it
abbrev pub Says : Answer → Output → Type 0
Says (Err r) o = ⊥
Says (Ok a) o = OneOf o a.2

-- it was said in a run
abbrev pub SaidIn : List Taken → Output → Type 0
SaidIn steps o = (t : Taken) × OneOf t steps × Says t.answer o

-- who has a section, and who waits for it in the order of coming: by the section's box
abbrev pub table_in : World → BoxNumber → table.Table
table_in w n = (station_at w n).state.keeper.table

abbrev pub holder_in : World → Section → Holder
holder_in w s = table.holder_at (table_in w s.keeper) s.place

abbrev pub queue_in : World → Section → List ℕ
queue_in w s = table.queue_at (table_in w s.keeper) s.place

-- what an engine's home knows of it
abbrev pub home_in : World → Engine → Home
home_in w e = (station_at w (home_of w.yard e)).state.home

abbrev pub engine_in : World → Engine → State
engine_in w e = at (home_in w e) e

-- the own sign of an engine, by its number
abbrev pub own_in : World → ℕ → ℕ
own_in w i = (engine_in w (record { 0 = i })).signs.own

-- an engine stands in the queue of a section that another has
abbrev pub WaitsFor : World → ℕ → ℕ → Type 0
WaitsFor w i j = (s : Section) × OneOf i (queue_in w s) × (holder_in w s ≡ Some j)

-- from an engine each waits for the next, and the last for z
abbrev pub Chain : World → ℕ → List ℕ → ℕ → Type 0
Chain w i [] z = WaitsFor w i z
Chain w i (j ∷ js) z = WaitsFor w i j × Chain w j js z

abbrev pub Apart : List ℕ → Type 0
Apart [] = Unit {0}
Apart (i ∷ is) = (OneOf i is → ⊥) × Apart is

-- a ring, which is a deadlock cycle: engines without repetition, each waiting for the next and the last for the first
abbrev pub Ring : World → List ℕ → Type 0
Ring w [] = ⊥
Ring w (i ∷ is) = Apart (i ∷ is) × Chain w i is i

-- an engine was told to give back in the wait in which it stands: it is leaving the queue that it is in still
abbrev pub IsTold : World → ℕ → Type 0
IsTold w i = (s : Section) × (n : ℕ) × ((engine_in w (record { 0 = i })).stored.mode ≡ mode.Called act.GiveUp s n) × OneOf i (queue_in w s)

-- an own sign of a ring that none of it exceeds
abbrev pub Highest : World → List ℕ → ℕ → Type 0
Highest w ring i = OneOf i ring × ((j : ℕ) → OneOf j ring → own_in w j ≤ own_in w i)

-- an engine can begin to wait and give up once more: none of its numbers, nor of the sections', is at its limit
abbrev pub BelowLimits : World → ℕ → Type 0
BelowLimits w i = ((engine_in w (record { 0 = i })).signs.count + 1 < 2 ^ 32)
    × ((engine_in w (record { 0 = i })).signs.shown + w.yard.engines < 2 ^ 64)
    × ((b : BoxNumber) → slice_index (engine_in w (record { 0 = i })).stored.used b.0 + 2 < 2 ^ 32)
    × ((s : Section) → table.change_number_at (table_in w s.keeper) s.place + 1 < 2 ^ 32)
