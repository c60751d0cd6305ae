-- What is in range in a yard. Assumes nothing.
use Rattle.std.specs.Prelude.{◌≡◌, ℕ, ◌^◌, ◌<◌, ◌≤◌, Some, None, Option}
use Rattle.messages.specs.declared.yard.Yard.{Yard}
use Rattle.messages.specs.declared.yard.Engine.{Engine}
use Rattle.messages.specs.declared.yard.Section.{Section}
use Rattle.messages.specs.declared.message.Call.{Call}
use Rattle.messages.specs.declared.message.Refusal.{Refusal}
use Rattle.messages.specs.declared.message.Refusal.TheVariants as refusal
use Rattle.messages.specs.declared.message.Reply.{Reply}
use Rattle.messages.specs.declared.message.Reply.TheVariants as reply
use Rattle.messages.specs.declared.message.Message.{Message}
use Rattle.messages.specs.declared.message.Message.TheVariants as message
use Rattle.messages.specs.declared.message.Record.{Record}
use Rattle.messages.specs.declared.message.Record.TheVariants as journal
use Rattle.messages.specs.Holder.{Holder}

-- an engine of the yard
abbrev pub EngineIn : Yard → Engine → Type 0
EngineIn y e = e.0 < y.engines

-- a section of one of the yard's boxes
abbrev pub SectionIn : Yard → Section → Type 0
SectionIn y s = (s.keeper.0 < y.boxes) × (s.place < 64)

-- nobody, or an engine of the yard
abbrev pub HolderIn : Yard → Holder → Type 0
HolderIn y None = Unit {0}
HolderIn y (Some e) = EngineIn y e

-- what a keeper refuses for: the engine waits, it has the section or hasn't, or a number is used up
abbrev pub Answerable : Refusal → Type 0
Answerable refusal.Malformed = ⊥
Answerable refusal.WrongCall = ⊥
Answerable refusal.Waiting = Unit {0}
Answerable refusal.Mismatch = Unit {0}
Answerable refusal.Stale = ⊥
Answerable refusal.Exhausted = Unit {0}

abbrev pub ReplyIn : Reply → Type 0
ReplyIn reply.Done = Unit {0}
ReplyIn reply.Waits = Unit {0}
ReplyIn (reply.Refused r) = Answerable r

abbrev pub CallIn : Yard → Call → Type 0
CallIn y c = EngineIn y c.engine × SectionIn y c.section × (c.number < 2 ^ 32)

-- a message that names only what the yard has, and whose numbers fit their bytes
abbrev pub MessageIn : Yard → Message → Type 0
MessageIn y (message.Call c) = CallIn y c
MessageIn y (message.Answer e n a) = EngineIn y e × (n < 2 ^ 32) × ReplyIn a.reply × HolderIn y a.holder × (a.change < 2 ^ 32)
MessageIn y (message.Change c) = SectionIn y c.section × HolderIn y c.holder × (c.change < 2 ^ 32)
MessageIn y (message.WhichChange e s) = EngineIn y e × SectionIn y s
MessageIn y (message.Sign s) = EngineIn y s.to × (s.count < 2 ^ 32) × EngineIn y s.by × (s.sign < 2 ^ 64)
MessageIn y (message.Waits w) = EngineIn y w.engine × SectionIn y w.section × (w.count < 2 ^ 32) × (w.change < 2 ^ 32)

-- a record that names only what the yard has, and whose numbers fit their bytes
abbrev pub RecordIn : Yard → Record → Type 0
RecordIn y (journal.Kept c) = CallIn y c
RecordIn y (journal.Made c) = CallIn y c
RecordIn y (journal.Beginning holder waits own) = EngineIn y waits.engine × SectionIn y waits.section × (waits.change < 2 ^ 32) × EngineIn y holder × (waits.count < 2 ^ 32) × (own < 2 ^ 64)
RecordIn y (journal.Heard e s) = EngineIn y e × (s < 2 ^ 64)

-- a yard of 1 to 16 boxes and 1 to 64 engines
abbrev pub YardMade : ℕ → ℕ → Option Yard → Type 0
YardMade b e None = ((1 ≤ b) × (b ≤ 16) × (1 ≤ e) × (e ≤ 64)) → ⊥
YardMade b e (Some y) = (y.boxes ≡ b) × (y.engines ≡ e)
