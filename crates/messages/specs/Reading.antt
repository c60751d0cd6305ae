-- What bytes are read as, by their first byte and their length. Assumes nothing.
use Rattle.std.specs.Prelude.{ℕ, ◌+◌, ◌*◌, Bool, true, false, cond, ◌&&◌, List, length, drop, Some, None, Option, ◌==◌, nat_le, nat_lt, slice_index}
use Rattle.messages.specs.declared.yard.Yard.{Yard}
use Rattle.messages.specs.declared.yard.Engine.{Engine}
use Rattle.messages.specs.declared.yard.BoxNumber.{BoxNumber}
use Rattle.messages.specs.declared.yard.Section.{Section}
use Rattle.messages.specs.declared.message.Act.{Act}
use Rattle.messages.specs.declared.message.Act.TheVariants as act
use Rattle.messages.specs.declared.message.Call.{Call}
use Rattle.messages.specs.declared.message.Refusal.{Refusal}
use Rattle.messages.specs.declared.message.Refusal.TheVariants as refusal
use Rattle.messages.specs.declared.message.Reply.{Reply}
use Rattle.messages.specs.declared.message.Reply.TheVariants as reply
use Rattle.messages.specs.declared.message.Message.{Message}
use Rattle.messages.specs.declared.message.Message.TheVariants as message
use Rattle.messages.specs.Holder.{Holder}

abbrev pub and_then : {A B : Type 0} → Option A → (A → Option B) → Option B
and_then None f = None
and_then (Some x) f = f x

-- one of `then` and `else`, by a test
abbrev pub unless : {A : Type 0} → Bool → Option A → Option A
unless true x = x
unless false x = None

abbrev pub engine_of : Yard → ℕ → Option Engine
engine_of y n = unless (nat_lt n y.engines) (Some (record { 0 = n }))

abbrev pub box_of : Yard → ℕ → Option BoxNumber
box_of y n = unless (nat_lt n y.boxes) (Some (record { 0 = n }))

abbrev pub section_of : Yard → ℕ → ℕ → Option Section
section_of y b p = unless (nat_lt b y.boxes && nat_lt p 64) (Some (record { keeper = record { 0 = b }; place = p }))

abbrev pub holder_of : Yard → ℕ → Option Holder
holder_of y n = cond (n == 255) (Some None) (and_then (engine_of y n) (λ e. Some (Some e)))

-- four bytes as a number, from place i on
abbrev pub four_at : List ℕ → ℕ → ℕ
four_at xs i = slice_index xs i * 16777216 + slice_index xs (i + 1) * 65536 + slice_index xs (i + 2) * 256 + slice_index xs (i + 3)

-- eight bytes as a number, from place i on
abbrev pub eight_at : List ℕ → ℕ → ℕ
eight_at xs i = slice_index xs i * 72057594037927936 + slice_index xs (i + 1) * 281474976710656 + slice_index xs (i + 2) * 1099511627776 + slice_index xs (i + 3) * 4294967296
    + slice_index xs (i + 4) * 16777216 + slice_index xs (i + 5) * 65536 + slice_index xs (i + 6) * 256 + slice_index xs (i + 7)

-- what follows the first byte of a call
abbrev pub call_of : Yard → Act → List ℕ → Option Call
call_of y a xs = unless (length xs == 7) (and_then (engine_of y (slice_index xs 0)) (λ e. and_then (section_of y (slice_index xs 1) (slice_index xs 2)) (λ s.
    Some (record { act = a; engine = e; section = s; number = four_at xs 3 }))))

-- the refusals that an answer can have
abbrev pub refusal_of : ℕ → Option Refusal
refusal_of n = cond (n == 3) (Some refusal.Waiting) (cond (n == 4) (Some refusal.Mismatch) (cond (n == 7) (Some refusal.Exhausted) None))

-- an answer's byte, with what follows its change number: nothing, or the refusal's number
abbrev pub reply_of : ℕ → List ℕ → Option Reply
reply_of n end = cond (n == 1) (unless (length end == 0) (Some reply.Done))
    (cond (n == 2) (unless (length end == 0) (Some reply.Waits))
    (cond (n == 0) (unless (length end == 1) (and_then (refusal_of (slice_index end 0)) (λ r. Some (reply.Refused r)))) None))

-- what follows the first byte of each other message
abbrev pub answer_of : Yard → List ℕ → Option Message
answer_of y xs = unless (nat_le 11 (length xs)) (and_then (engine_of y (slice_index xs 0)) (λ e. and_then (reply_of (slice_index xs 5) (drop 11 xs)) (λ r.
    and_then (holder_of y (slice_index xs 6)) (λ h. Some (message.Answer e (four_at xs 1) (record { reply = r; holder = h; change = four_at xs 7 }))))))

abbrev pub change_of : Yard → List ℕ → Option Message
change_of y xs = unless (length xs == 7) (and_then (section_of y (slice_index xs 0) (slice_index xs 1)) (λ s. and_then (holder_of y (slice_index xs 2)) (λ h.
    Some (message.Change (record { section = s; holder = h; change = four_at xs 3 })))))

abbrev pub which_of : Yard → List ℕ → Option Message
which_of y xs = unless (length xs == 3) (and_then (engine_of y (slice_index xs 0)) (λ e. and_then (section_of y (slice_index xs 1) (slice_index xs 2)) (λ s.
    Some (message.WhichChange e s))))

abbrev pub sign_of : Yard → List ℕ → Option Message
sign_of y xs = unless (length xs == 14) (and_then (engine_of y (slice_index xs 0)) (λ t. and_then (engine_of y (slice_index xs 5)) (λ b.
    Some (message.Sign (record { to = t; count = four_at xs 1; by = b; sign = eight_at xs 6 })))))

abbrev pub waits_of : Yard → List ℕ → Option Message
waits_of y xs = unless (length xs == 11) (and_then (engine_of y (slice_index xs 0)) (λ e. and_then (section_of y (slice_index xs 1) (slice_index xs 2)) (λ s.
    Some (message.Waits (record { engine = e; section = s; count = four_at xs 3; change = four_at xs 7 })))))

-- a call as a message
abbrev pub calling : Option Call → Option Message
calling c = and_then c (λ x. Some (message.Call x))

-- a message's first byte, and what follows it
abbrev pub kind_of : Yard → ℕ → List ℕ → Option Message
kind_of y k xs =
    cond (k == 1) (calling (call_of y act.Take xs)) (cond (k == 2) (calling (call_of y act.Free xs)) (cond (k == 3) (calling (call_of y act.GiveUp xs))
    (cond (k == 4) (answer_of y xs) (cond (k == 5) (change_of y xs) (cond (k == 6) (which_of y xs) (cond (k == 7) (sign_of y xs)
    (cond (k == 12) (waits_of y xs) None)))))))

-- what bytes are read as: the whole of them is one message, or it is none
abbrev pub message_of : Yard → List ℕ → Option Message
message_of y xs = unless (nat_le 1 (length xs)) (kind_of y (slice_index xs 0) (drop 1 xs))
