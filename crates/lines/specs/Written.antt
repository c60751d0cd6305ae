-- What a buffer holds. Assumes nothing.
use Rattle.std.specs.Prelude.{ℕ, List, Some, None, Option}
use Rattle.messages.specs.declared.encoded.Bytes.{Bytes}
use Rattle.messages.specs.Written.{encoded}

-- at most as many bytes as the widest line
abbrev pub Buffer : Type 0
Buffer = Bytes 45

-- its bytes
abbrev pub bytes_of : Buffer → List ℕ
bytes_of t = encoded t

-- the bytes of a buffer, if there is one
abbrev pub held : Option Buffer → Option (List ℕ)
held None = None
held (Some b) = Some (bytes_of b)
