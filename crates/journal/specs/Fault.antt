-- What is printed of a fault. Assumes nothing.
use Rattle.std.specs.Prelude.{ℕ, List, codes}
use Rattle.journal.specs.declared.fault.Fault.{Fault}
use Rattle.journal.specs.declared.fault.Fault.TheVariants as fault

-- what happened; and but for memory, it happened to the file
abbrev pub fault_text : Fault → List ℕ
fault_text fault.Memory = codes "no memory"
fault_text fault.Open = codes "can't be opened"
fault_text fault.Append = codes "can't be written"
fault_text fault.Sync = codes "can't be synced"
fault_text fault.Read = codes "can't be read"
fault_text fault.Cut = codes "can't be cut back"
