-- A box with its file as plain values, and what each input makes of them. Assumes nothing.
use Rattle.std.specs.Prelude.{◌≡◌, ℕ, List, [], ◌++◌, Ok}
use Rattle.messages.specs.declared.yard.BoxNumber.{BoxNumber}
use Rattle.messages.specs.declared.yard.Yard.{Yard}
use Rattle.messages.specs.declared.message.Record.{Record}
use Rattle.messages.specs.Journal.{Holds, written}
use Rattle.journal.specs.declared.output.Output.{Output}
use Rattle.journal.specs.Memory.{held_by}
use Rattle.boxes.specs.declared.signal_box.Input.{Input}
use Rattle.boxes.specs.Log.{Log, none}
use Rattle.boxes.specs.Model.{State, fresh, state_of}
use Rattle.boxes.specs.Handle.{delivered_of, handle_of, reminders_of}
use Rattle.boxes.specs.Opening.{open_from}
use Rattle.world.specs.declared.station.Station as code

-- a box and the bytes of its file
pub record Station : Type 0 where
  pub state : State
  pub file : List ℕ

abbrev pub station_of : code.Station → Station
station_of s = record { state = state_of s.state; file = held_by s.file }

-- a box of which there is no record yet
abbrev pub fresh_station : Yard → BoxNumber → Station
fresh_station y n = record { state = fresh y n; file = [] }

-- what came of an input, stored and then said
abbrev pub committed : List ℕ → State × Log → Station × List Output
committed file p = (record { state = p.0; file = file ++ written p.1.records }, p.1.outputs)

-- a driver's line or a second
abbrev pub handled_at : Input → Station → Station × List Output
handled_at i s = committed s.file (handle_of s.state i none)

-- the bytes of a message, from its sender
abbrev pub delivered_at : BoxNumber → List ℕ → Station → Station × List Output
delivered_at from bytes s = committed s.file (delivered_of s.state from bytes none)

-- what opening makes of the records of a file, with its reminders
abbrev pub opened_as : List Record → State → Station × List Output
opened_as rs b = committed (written rs) (b, reminders_of b.home none)

-- a stop: the box is what the records in its file stand for, and the file has these records
abbrev pub Restarts : Yard → BoxNumber → Station → Station × List Output → Type 0
Restarts y n s p = (rs : List Record) × (rest : List ℕ) × (b : State)
    × Holds y s.file rs rest × (open_from 0 rs (fresh y n) ≡ Ok b) × (p ≡ opened_as rs b)
