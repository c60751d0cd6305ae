-- A box that comes up from its file. Assumes nothing.
use Rattle.std.specs.Prelude.{◌≡◌, ℕ, ◌⊎◌, List, length, take, Ok, Err, Result}
use Rattle.messages.specs.declared.message.Record.{Record}
use Rattle.messages.specs.declared.records.Unread.TheVariants as unread
use Rattle.messages.specs.declared.yard.BoxNumber.{BoxNumber}
use Rattle.messages.specs.declared.yard.Yard.{Yard}
use Rattle.messages.specs.Journal.{Holds, ReadIs, written}
use Rattle.journal.specs.declared.opening.OpenFault.{OpenFault}
use Rattle.journal.specs.declared.opening.OpenFault.TheVariants as fault
use Rattle.journal.specs.Effect.{said_of}
use Rattle.journal.specs.Opening.{StillThere}
use Rattle.boxes.specs.declared.signal_box.SignalBox.{SignalBox}
use Rattle.boxes.specs.Handle.{reminders_of}
use Rattle.boxes.specs.Log.{none}
use Rattle.boxes.specs.Model.{fresh, state_of}
use Rattle.boxes.specs.Opening.{open_from}
use Rattle.box_run.specs.declared.coming_up.CameUp.{CameUp}
use Rattle.box_run.specs.declared.coming_up.Standing.{Standing}

-- the first record that the box couldn't have written begins at this byte
abbrev pub WrongAt : Yard → BoxNumber → List Record → ℕ → Type 0
WrongAt y n rs at = (i : ℕ) × (open_from 0 rs (fresh y n) ≡ Err i) × (at ≡ length (written (take i rs)))

-- the box that records stand for, or where one lies that it couldn't have written
abbrev pub StandsFor : Yard → BoxNumber → List Record → Result SignalBox OpenFault → Type 0
StandsFor y n rs (Ok b) = open_from 0 rs (fresh y n) ≡ Ok (state_of b)
StandsFor y n rs (Err (fault.Damaged at)) = WrongAt y n rs at
StandsFor y n rs (Err (fault.Fault f)) = ⊥

-- a file is damaged at a byte: neither a record nor the beginning of one stands there, or a record that the box couldn't have written
abbrev pub DamagedAt : Yard → BoxNumber → List ℕ → ℕ → Type 0
DamagedAt y n xs at = ReadIs y xs (Err (unread.Damaged at)) ⊎ ((rs : List Record) × (rest : List ℕ) × Holds y xs rs rest × WrongAt y n rs at)

-- what a file with bytes xs stands for, and how many bytes the records take; or where it is damaged
abbrev pub ReadUp : Yard → BoxNumber → List ℕ → Result Standing OpenFault → Type 0
ReadUp y n xs (Ok s) = (rs : List Record) × (rest : List ℕ) × Holds y xs rs rest × (open_from 0 rs (fresh y n) ≡ Ok (state_of s.state)) × (s.length ≡ length (written rs))
ReadUp y n xs (Err (fault.Damaged at)) = DamagedAt y n xs at
ReadUp y n xs (Err (fault.Fault f)) = Unit {0}

-- what coming up from a file with bytes xs gives, the first k of them synced: the box that its records stand for, which are all synced, and the reminders;
-- or the byte at which it is damaged, and it is as it was; or a fault, and every record that was synced is there still
abbrev pub ComesUp : Yard → BoxNumber → List ℕ → ℕ → (List ℕ → ℕ → Type 0) → Result CameUp OpenFault → Type 0
ComesUp y n xs k after (Ok u) = (rs : List Record) × (rest : List ℕ) × Holds y xs rs rest × (open_from 0 rs (fresh y n) ≡ Ok (state_of u.state))
    × (said_of u.said ≡ (reminders_of u.state.home none).outputs) × after (written rs) (length (written rs))
ComesUp y n xs k after (Err (fault.Damaged at)) = after xs k × DamagedAt y n xs at
ComesUp y n xs k after (Err (fault.Fault f)) = StillThere y xs k after
