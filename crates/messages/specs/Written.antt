-- What is written of one message or record. Assumes nothing.
use Rattle.std.specs.Prelude.{ℕ, List, take}
use Rattle.messages.specs.declared.encoded.Bytes.{Bytes}

-- its bytes
abbrev pub encoded : {n : ℕ} → Bytes n → List ℕ
encoded e = take e.used e.bytes
