-- The table of bytes: what each message and each record is written as, high byte first. Assumes nothing.
use Rattle.std.specs.Prelude.{ℕ, ◌/◌, ◌%◌, List, [], ◌∷◌, ◌++◌, Some, None}
use Rattle.messages.specs.declared.yard.Section.{Section}
use Rattle.messages.specs.declared.message.Act.{Act}
use Rattle.messages.specs.declared.message.Act.TheVariants as act
use Rattle.messages.specs.declared.message.Call.{Call}
use Rattle.messages.specs.declared.message.Refusal.{Refusal}
use Rattle.messages.specs.declared.message.Refusal.TheVariants as refusal
use Rattle.messages.specs.declared.message.Reply.{Reply}
use Rattle.messages.specs.declared.message.Reply.TheVariants as reply
use Rattle.messages.specs.declared.message.Message.{Message}
use Rattle.messages.specs.declared.message.Message.TheVariants as message
use Rattle.messages.specs.declared.message.Record.{Record}
use Rattle.messages.specs.declared.message.Record.TheVariants as journal
use Rattle.messages.specs.Holder.{Holder}

-- a number in four bytes
abbrev pub four : ℕ → List ℕ
four n = (n / 16777216 % 256) ∷ (n / 65536 % 256) ∷ (n / 256 % 256) ∷ (n % 256) ∷ []

-- a number in eight bytes
abbrev pub eight : ℕ → List ℕ
eight n = (n / 72057594037927936 % 256) ∷ (n / 281474976710656 % 256) ∷ (n / 1099511627776 % 256) ∷ (n / 4294967296 % 256)
    ∷ (n / 16777216 % 256) ∷ (n / 65536 % 256) ∷ (n / 256 % 256) ∷ (n % 256) ∷ []

-- a section in two bytes: its box, its place
abbrev pub two : Section → List ℕ
two s = s.keeper.0 ∷ s.place ∷ []

-- the first byte of a call
abbrev pub act_byte : Act → ℕ
act_byte act.Take = 1
act_byte act.Free = 2
act_byte act.GiveUp = 3

-- who has a section: 255 is nobody
abbrev pub holder_byte : Holder → ℕ
holder_byte None = 255
holder_byte (Some e) = e.0

-- the number of a refusal
abbrev pub refusal_number : Refusal → ℕ
refusal_number refusal.Malformed = 1
refusal_number refusal.WrongCall = 2
refusal_number refusal.Waiting = 3
refusal_number refusal.Mismatch = 4
refusal_number refusal.Stale = 6
refusal_number refusal.Exhausted = 7

-- an answer's byte, and what comes after its change number
abbrev pub reply_byte : Reply → ℕ
reply_byte reply.Done = 1
reply_byte reply.Waits = 2
reply_byte (reply.Refused r) = 0

abbrev pub reply_end : Reply → List ℕ
reply_end reply.Done = []
reply_end reply.Waits = []
reply_end (reply.Refused r) = refusal_number r ∷ []

abbrev pub call_bytes : Call → List ℕ
call_bytes c = act_byte c.act ∷ c.engine.0 ∷ two c.section ++ four c.number

-- the bytes of a message
abbrev pub bytes_of : Message → List ℕ
bytes_of (message.Call c) = call_bytes c
bytes_of (message.Answer e n a) = 4 ∷ e.0 ∷ four n ++ (reply_byte a.reply ∷ holder_byte a.holder ∷ four a.change ++ reply_end a.reply)
bytes_of (message.Change c) = 5 ∷ two c.section ++ (holder_byte c.holder ∷ four c.change)
bytes_of (message.WhichChange e s) = 6 ∷ e.0 ∷ two s
bytes_of (message.Sign s) = 7 ∷ s.to.0 ∷ four s.count ++ (s.by.0 ∷ eight s.sign)
bytes_of (message.Waits w) = 12 ∷ w.engine.0 ∷ two w.section ++ (four w.count ++ four w.change)

-- the bytes of a record
abbrev pub record_bytes : Record → List ℕ
record_bytes (journal.Kept c) = call_bytes c
record_bytes (journal.Made c) = 10 ∷ call_bytes c
record_bytes (journal.Beginning holder waits own) = 8 ∷ waits.engine.0 ∷ two waits.section ++ (four waits.change ++ (holder.0 ∷ four waits.count ++ eight own))
record_bytes (journal.Heard e s) = 9 ∷ e.0 ∷ eight s
