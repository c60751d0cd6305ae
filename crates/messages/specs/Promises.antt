-- What is promised of the bytes of messages. Assumes nothing.
use Rattle.std.specs.Prelude.{◌≡◌, ℕ, ◌<◌, List, [], ◌++◌, Some, None, Ok, Err, Result, ◌≢◌, slice_index}
use Rattle.messages.specs.declared.yard.Yard.{Yard}
use Rattle.messages.specs.declared.message.Message.{Message}
use Rattle.messages.specs.declared.message.Refusal.{Refusal}
use Rattle.messages.specs.declared.message.Refusal.TheVariants as refusal
use Rattle.messages.specs.Range.{MessageIn}
use Rattle.messages.specs.Reading.{message_of}
use Rattle.messages.specs.Table.{bytes_of}

-- each number of the list is a byte
abbrev pub Bytes : List ℕ → Type 0
Bytes xs = (i : ℕ) → slice_index xs i < 256

-- every message in range is read back from its bytes
abbrev pub ReadsBack : Type 0
ReadsBack = (y : Yard) (m : Message) → MessageIn y m → message_of y (bytes_of m) ≡ Some m

-- whatever is read is in range, and the bytes are the ones that it is written as: each message has one form
abbrev pub OneForm : Type 0
OneForm = (y : Yard) (xs : List ℕ) (m : Message) → Bytes xs → message_of y xs ≡ Some m → MessageIn y m × (bytes_of m ≡ xs)

-- no bytes are both a message and the beginning of a longer one
abbrev pub NoneBeginsAnother : Type 0
NoneBeginsAnother = (m n : Message) (more : List ℕ) → bytes_of m ++ more ≡ bytes_of n → more ≡ []

-- every proper first part of a message's bytes is turned away
abbrev pub CutRefused : Type 0
CutRefused = (y : Yard) (m : Message) (front rest : List ℕ) → MessageIn y m → front ++ rest ≡ bytes_of m → (rest ≢ []) → message_of y front ≡ None

-- what the decoder answers: the message in range that is written so, or that there is none
abbrev pub Decoded : Yard → List ℕ → Result Message Refusal → Type 0
Decoded y xs (Ok m) = MessageIn y m × (bytes_of m ≡ xs)
Decoded y xs (Err e) = (e ≡ refusal.Malformed) × ((m : Message) → MessageIn y m → bytes_of m ≢ xs)
