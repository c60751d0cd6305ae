-- What a file is opened as. Assumes nothing.
use Rattle.std.specs.Prelude.{◌≡◌, ℕ, ◌≤◌, List, ◌++◌, length, take, Ok, Err, vec_items, Result, Vec}
use Rattle.std.specs.declared.alloc.Global.{Global}
use Rattle.messages.specs.declared.message.Record.{Record}
use Rattle.messages.specs.declared.records.Replay.{Replay}
use Rattle.messages.specs.declared.records.Unread.{Unread}
use Rattle.messages.specs.declared.records.Unread.TheVariants as unread
use Rattle.messages.specs.declared.yard.Yard.{Yard}
use Rattle.messages.specs.Journal.{AllIn, Holds, ReadIs, written}
use Rattle.journal.specs.declared.fault.Fault.TheVariants as file
use Rattle.journal.specs.declared.opening.OpenFault.{OpenFault}
use Rattle.journal.specs.declared.opening.OpenFault.TheVariants as fault

-- why a file can't be opened, where its bytes couldn't be read
abbrev pub fault_of : Unread → OpenFault
fault_of (unread.Damaged at) = fault.Damaged at
fault_of unread.NoMemory = fault.Fault file.Memory

-- what reading a file with bytes xs answers: its whole records and how far they reach, or the byte at which it is damaged
abbrev pub Found : Yard → List ℕ → Result Replay OpenFault → Type 0
Found y xs (Ok p) = ReadIs y xs (Ok p)
Found y xs (Err (fault.Damaged at)) = ReadIs y xs (Err (unread.Damaged at))
Found y xs (Err (fault.Fault f)) = Unit {0}

-- what opening a file with bytes xs answers: its whole records, after which there is at most the beginning of one; or the byte at which it is damaged
abbrev pub Reads : Yard → List ℕ → Result (Vec Record Global) OpenFault → Type 0
Reads y xs (Ok v) = (rest : List ℕ) × Holds y xs (vec_items v) rest
Reads y xs (Err (fault.Damaged at)) = ReadIs y xs (Err (unread.Damaged at))
Reads y xs (Err (fault.Fault f)) = Unit {0}

-- of a file with bytes xs, the first n of them synced, some first part is left, and every record that was synced is there still, and is synced
abbrev pub StillThere : Yard → List ℕ → ℕ → (List ℕ → ℕ → Type 0) → Type 0
StillThere y xs n after = (k : ℕ) × (m : ℕ) × after (take k xs) m
    × ((rs : List Record) (rest : List ℕ) → AllIn y rs → written rs ++ rest ≡ xs → length (written rs) ≤ n → length (written rs) ≤ m)

-- what opening leaves of that file: the whole records, all synced; or, where it is damaged, what was there; or, on a fault, what was synced
abbrev pub Leaves : Yard → List ℕ → ℕ → (List ℕ → ℕ → Type 0) → Result (Vec Record Global) OpenFault → Type 0
Leaves y xs n after (Ok v) = after (written (vec_items v)) (length (written (vec_items v)))
Leaves y xs n after (Err (fault.Damaged at)) = after xs n
Leaves y xs n after (Err (fault.Fault f)) = StillThere y xs n after

-- these records, or a fault; no damage
abbrev pub Gives : List Record → Result (Vec Record Global) OpenFault → Type 0
Gives rs (Ok v) = vec_items v ≡ rs
Gives rs (Err (fault.Damaged at)) = ⊥
Gives rs (Err (fault.Fault f)) = Unit {0}

-- opening what an opening left gives the same records
abbrev pub OpenedTwice : Type 0
OpenedTwice = (y : Yard) (xs : List ℕ) (v : Vec Record Global) (r : Result (Vec Record Global) OpenFault)
    → Reads y xs (Ok v) → Reads y (written (vec_items v)) r → Gives (vec_items v) r

-- records in range that are written after an opening, whatever it cut away, are read back after those that it gave
abbrev pub AppendedReadsBack : Type 0
AppendedReadsBack = (y : Yard) (xs : List ℕ) (v : Vec Record Global) (more : List Record) (r : Result (Vec Record Global) OpenFault)
    → Reads y xs (Ok v) → AllIn y more → Reads y (written (vec_items v) ++ written more) r → Gives (vec_items v ++ more) r

-- after a stop of a file that had records, the first of them synced: those, and a first part of the others, and nothing else is left in it
abbrev pub Restarted : List Record → List Record → List ℕ → Result (Vec Record Global) OpenFault → Type 0
Restarted synced others after (Ok v) = (j : ℕ) × (vec_items v ≡ synced ++ take j others) × (after ≡ written (vec_items v))
Restarted synced others after (Err (fault.Damaged at)) = ⊥
Restarted synced others after (Err (fault.Fault f)) = Unit {0}
