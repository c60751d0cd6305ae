-- Every input of a home in one: what it changes, and what is stored. Assumes nothing.
use Rattle.std.specs.Prelude.{◌≡◌, ℕ, List, Some, None, Option}
use Rattle.messages.specs.declared.yard.BoxNumber.{BoxNumber}
use Rattle.messages.specs.declared.yard.Engine.{Engine}
use Rattle.messages.specs.declared.yard.Section.{Section}
use Rattle.messages.specs.Holder.{Holder}
use Rattle.messages.specs.declared.message.Record.{Record}
use Rattle.messages.specs.declared.message.Record.TheVariants as journal
use Rattle.messages.specs.declared.message.Reply.{Reply}
use Rattle.signs.specs.declared.table.Engines.{Engines}
use Rattle.engine_state.specs.declared.state.Event.{Event}
use Rattle.engine_state.specs.declared.state.Event.TheVariants as event
use Rattle.engine_state.specs.declared.state.Stored.{Stored}
use Rattle.home.specs.declared.home.Home.{Home}
use Rattle.home.specs.Home.{apply_of}
use Rattle.home.specs.Inputs.{take_of, free_of, answer_of, change_of, sign_of, waits_of}

pub data Input : Type 0 where
  take : Engine → Section → Input
  free : Engine → Section → Input
  answer : BoxNumber → Engine → ℕ → Reply → Holder → ℕ → Input
  change : Engine → Section → Holder → ℕ → Input
  sign : BoxNumber → Engine → ℕ → Engine → ℕ → Input
  waits : Engine → Section → ℕ → Input

-- what an input makes of a home, and its event
abbrev pub step_of : Home → Input → Home × Event
step_of h (take e s) = take_of h e s
step_of h (free e s) = free_of h e s
step_of h (answer from e n r holder c) = answer_of h from e n r holder c
step_of h (change e s holder c) = change_of h e s holder c
step_of h (sign from e count by s) = sign_of h from e count by s
step_of h (waits e s count) = waits_of h e s count

-- nothing came of it: refused, or passed over
abbrev pub TurnedAway : Event → Type 0
TurnedAway event.PassedOver = Unit {0}
TurnedAway (event.Refused r) = Unit {0}
TurnedAway (event.RefusedBy r) = ⊥
TurnedAway (event.Had e s) = ⊥
TurnedAway event.Closed = ⊥
TurnedAway (event.Called c) = ⊥
TurnedAway (event.Found c) = ⊥
TurnedAway (event.Began start) = ⊥
TurnedAway (event.Heard e s) = ⊥
TurnedAway (event.Noted telling) = ⊥

-- what is turned away changes nothing
abbrev pub TurnedAwayChangesNothing : Type 0
TurnedAwayChangesNothing = (h : Home) (i : Input) → TurnedAway (step_of h i).1 → (step_of h i).0 ≡ h

-- what is stored of a home: the rest is lost when the box stops
abbrev pub stored_of : Home → Engines × List Stored
stored_of h = (h.signs, h.stored)

-- the record that an event asks for
abbrev pub record_of : Event → Option Record
record_of event.PassedOver = None
record_of (event.Refused r) = None
record_of (event.RefusedBy r) = None
record_of (event.Had e s) = None
record_of event.Closed = None
record_of (event.Called c) = Some (journal.Made c)
record_of (event.Found c) = Some (journal.Made c)
record_of (event.Began start) = Some (journal.Beginning start.holder (record { engine = start.engine; section = start.section; count = start.count; change = start.change }) start.own)
record_of (event.Heard e s) = Some (journal.Heard e s)
record_of (event.Noted telling) = None

abbrev pub applied : Home → Option Record → Home
applied h None = h
applied h (Some r) = apply_of h r

-- what is stored changes by the event's record and in no other way: the file has what is stored
abbrev pub StoredByRecord : Type 0
StoredByRecord = (h : Home) (i : Input) → stored_of (step_of h i).0 ≡ stored_of (applied h (record_of (step_of h i).1))
