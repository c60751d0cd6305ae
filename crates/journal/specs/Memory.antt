-- What the file in memory holds. Assumes nothing.
use Rattle.std.specs.Prelude.{ℕ, List, vec_items}
use Rattle.journal.specs.declared.memory.MemoryFile.{MemoryFile}

-- all its bytes, synced or not
abbrev pub held_by : MemoryFile → List ℕ
held_by f = vec_items f.bytes
