-- Runs of one box, from the beginning, with stops: its state, and the records in its file. Assumes nothing.
use Rattle.std.specs.Prelude.{◌≡◌, ℕ, List, [], ◌∷◌, ◌++◌, Ok, Err, Result}
use Rattle.messages.specs.declared.yard.BoxNumber.{BoxNumber}
use Rattle.messages.specs.declared.yard.Yard.{Yard}
use Rattle.messages.specs.declared.message.Record.{Record}
use Rattle.boxes.specs.declared.signal_box.Input.{Input}
use Rattle.boxes.specs.Log.{Log, none}
use Rattle.boxes.specs.Model.{State, fresh}
use Rattle.boxes.specs.Handle.{delivered_of, handle_of}
use Rattle.boxes.specs.Opening.{open_from}

-- what comes to a box: an input, the bytes of a message from a box, or a stop
pub data Coming : Type 0 where
  input : Input → Coming
  bytes : BoxNumber → List ℕ → Coming
  stop : Coming

-- a box, and the records in its file
pub record Station : Type 0 where
  pub state : State
  pub records : List Record

-- what came of an input: the new state, and its records behind those that there were
abbrev pub stored : List Record → State × Log → Station
stored before p = record { state = p.0; records = before ++ p.1.records }

-- the box that comes up from its records; as it was where they stand for none
abbrev pub up_from : Station → Result State ℕ → Station
up_from s (Ok b) = record { state = b; records = s.records }
up_from s (Err i) = s

abbrev pub comes : Yard → BoxNumber → Station → Coming → Station
comes y n s (input i) = stored s.records (handle_of s.state i none)
comes y n s (bytes from xs) = stored s.records (delivered_of s.state from xs none)
comes y n s stop = up_from s (open_from 0 s.records (fresh y n))

-- the box after all that came, the last of it first in the list
abbrev pub after : Yard → BoxNumber → List Coming → Station
after y n [] = record { state = fresh y n; records = [] }
after y n (c ∷ cs) = comes y n (after y n cs) c

-- two boxes of which the same is stored: sections, queues, last calls and answers; signs, counts, modes, numbers used and sections kept
pub record SameStored (b c : State) : Type 0 where
  pub yard : b.home.yard ≡ c.home.yard
  pub number : b.home.number ≡ c.home.number
  pub keeper : b.keeper ≡ c.keeper
  pub signs : b.home.signs ≡ c.home.signs
  pub stored : b.home.stored ≡ c.home.stored

-- Whatever came, stops too, the records are read back, and stand for what is stored.
abbrev pub RecordsStandForIt : Type 0
RecordsStandForIt =
    (y : Yard) (n : BoxNumber) (cs : List Coming) →
    (b : State) × (open_from 0 (after y n cs).records (fresh y n) ≡ Ok b) × SameStored b (after y n cs).state
