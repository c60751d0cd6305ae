-- What a box sends to itself, handled in the order of sending. Assumes nothing.
use Rattle.std.specs.Prelude.{◌≡◌, ℕ, ◌+◌, ◌<◌, ◌≤◌, length, Some, None, Option}
use Rattle.messages.specs.declared.yard.BoxNumber.{BoxNumber}
use Rattle.messages.specs.declared.message.Message.{Message}
use Rattle.journal.specs.Effect.{own_at}
use Rattle.boxes.specs.Handle.{received_of}
use Rattle.boxes.specs.Log.{Log}
use Rattle.boxes.specs.Model.{State}

-- a message from the box itself, if there is one
abbrev pub received_from : BoxNumber → Option Message → State × Log → State × Log
received_from own None p = p
received_from own (Some m) p = received_of p.0 own m p.1

-- what the output at a place makes of the box, if it is for the box itself
abbrev pub own_handled : BoxNumber → ℕ → State × Log → State × Log
own_handled own n p = received_from own (own_at own n p.1.outputs) p

-- from the n-th output on each that is for the box itself is handled, those too that come of it, until there is no output more
pub data Settles (own : BoxNumber) : ℕ → State × Log → State × Log → Type 0 where
  settled : {n : ℕ} {p : State × Log} → length p.1.outputs ≤ n → Settles own n p p
  next : {n : ℕ} {p q : State × Log} → n < length p.1.outputs → Settles own (n + 1) (own_handled own n p) q → Settles own n p q

-- that leaves no choice
abbrev pub SettlesOneWay : Type 0
SettlesOneWay = (own : BoxNumber) (n : ℕ) (p q r : State × Log) → Settles own n p q → Settles own n p r → q ≡ r
