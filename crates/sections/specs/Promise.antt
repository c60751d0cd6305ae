-- What is promised of a box's sections, after every list of calls from the empty table on.
use Rattle.std.specs.Prelude.{◌≡◌, ℕ, Bool, true, false, ◌&&◌, ◌||◌, List, [], ◌∷◌, Some, ◌==◌, ◌≢◌}
use Rattle.sections.specs.Table.{Table, empty, free_of, give_up_of, holder_at, is_in, queue_at, take_of}
use Rattle.sections.specs.Sound.{WaitsAt, once}

-- does one stand before another in a queue
abbrev pub ahead : ℕ → ℕ → List ℕ → Bool
ahead one other [] = false
ahead one other (x ∷ xs) = (x == one && is_in other xs) || ahead one other xs

-- from one table to the next nobody overtakes: whoever stands before one that waited already stood before it then
abbrev pub InTurn : Table → Table → Type 0
InTurn before now = (place one other : ℕ) → WaitsAt before other place → ahead one other (queue_at now place) ≡ true → ahead one other (queue_at before place) ≡ true

-- from one table to the next, who gets a section that another had was the first of its queue, and the rest wait on
abbrev pub FirstServed : Table → Table → Type 0
FirstServed before now =
    (place old new : ℕ) → holder_at before place ≡ Some old → holder_at now place ≡ Some new → (old ≢ new) → queue_at before place ≡ new ∷ queue_at now place

-- a call: by an engine, for the section at a place
pub data Call : Type 0 where
  takes : ℕ → ℕ → Call
  frees : ℕ → ℕ → Call
  gives_up : ℕ → ℕ → Call

-- the table after a call
abbrev pub next : Table → Call → Table
next t (takes engine place) = (take_of t engine place).0
next t (frees engine place) = (free_of t engine place).0
next t (gives_up engine place) = (give_up_of t engine place).0

-- the table after calls, the last of them first in the list
abbrev pub after : List Call → Table
after [] = empty
after (call ∷ calls) = next (after calls) call

-- 1. At most one has a section.
abbrev pub OneHolder : Type 0
OneHolder = (calls : List Call) (place one other : ℕ) → holder_at (after calls) place ≡ Some one → holder_at (after calls) place ≡ Some other → one ≡ other

-- 2. Nobody waits twice for a section,
abbrev pub AlwaysNobodyTwice : Type 0
AlwaysNobodyTwice = (calls : List Call) (place : ℕ) → once (queue_at (after calls) place) ≡ true

-- nor for one that it has,
abbrev pub AlwaysNobodyItsOwn : Type 0
AlwaysNobodyItsOwn = (calls : List Call) (engine place : ℕ) → WaitsAt (after calls) engine place → holder_at (after calls) place ≢ Some engine

-- nor for two.
abbrev pub AlwaysOneQueue : Type 0
AlwaysOneQueue = (calls : List Call) (engine p q : ℕ) → WaitsAt (after calls) engine p → WaitsAt (after calls) engine q → p ≡ q

-- 3. Whoever waits for a section, somebody has it.
abbrev pub AlwaysSomebodyHas : Type 0
AlwaysSomebodyHas = (calls : List Call) (engine place : ℕ) → WaitsAt (after calls) engine place → (holder : ℕ) × (holder_at (after calls) place ≡ Some holder)

-- 4. Nobody overtakes.
abbrev pub NobodyOvertakes : Type 0
NobodyOvertakes = (calls : List Call) (call : Call) → InTurn (after calls) (after (call ∷ calls))

-- 5. Who gets a section that is let go was the first of its queue.
abbrev pub AlwaysFirstServed : Type 0
AlwaysFirstServed = (calls : List Call) (call : Call) → FirstServed (after calls) (after (call ∷ calls))
