-- What the sections answer, in the words of messages. Assumes nothing.
use Rattle.std.specs.Prelude.{◌≡◌, ℕ, cond, List, length, Some, None, Ok, Err, Option, Result, nat_lt, slice_index}
use Rattle.messages.specs.declared.yard.Engine.{Engine}
use Rattle.messages.specs.Holder.{Holder}
use Rattle.messages.specs.declared.message.Refusal.{Refusal}
use Rattle.messages.specs.declared.message.Refusal.TheVariants as refusal
use Rattle.messages.specs.declared.message.Reply.{Reply}
use Rattle.messages.specs.declared.message.Reply.TheVariants as reply
use Rattle.messages.specs.Table.{holder_byte, refusal_number, reply_byte}
use Rattle.sections.specs.declared.Done.{Done}
use Rattle.sections.specs.declared.Done.TheVariants as did
use Rattle.sections.specs.Table.{Holder as SectionHolder}
use Rattle.sections.specs.declared.Refusal.{Refusal as SectionRefusal}
use Rattle.sections.specs.declared.Refusal.TheVariants as refused
use Rattle.sections.specs.Bytes.{answer_byte, number_of, who_byte}
use Rattle.messages.specs.declared.message.Answer.{Answer}
use Rattle.keeper.specs.declared.Verdict.{Verdict}
use Rattle.keeper.specs.declared.Verdict.TheVariants as verdict

-- who has a section
abbrev pub holder_of : SectionHolder → Holder
holder_of None = None
holder_of (Some e) = Some (record { 0 = e })

-- why a call is refused
abbrev pub refusal_of : SectionRefusal → Refusal
refusal_of refused.OutOfRange = refusal.Malformed
refusal_of refused.Waiting = refusal.Waiting
refusal_of refused.Mismatch = refusal.Mismatch
refusal_of refused.AtLimit = refusal.Exhausted

-- what a call that was done is answered
abbrev pub done_reply : Done → Reply
done_reply did.Had = reply.Done
done_reply (did.Waits _) = reply.Waits
done_reply (did.LetGo _) = reply.Done
done_reply did.Left = reply.Done

-- what a call is answered
abbrev pub reply_of : Result Done SectionRefusal → Reply
reply_of (Ok done) = done_reply done
reply_of (Err r) = reply.Refused (refusal_of r)

-- who stands in a queue at an index
abbrev pub waiter_of : List ℕ → ℕ → Option Engine
waiter_of queue i = cond (nat_lt i (length queue)) (Some (record { 0 = slice_index queue i })) None

-- a section that was let go went on to an engine, or to nobody
abbrev pub let_go : Answer → SectionHolder → Verdict
let_go a None = verdict.Done a
let_go a (Some _) = verdict.PassedOn a

-- the verdict on a call that was done
abbrev pub done_of : Answer → Done → Verdict
done_of a did.Had = verdict.Done a
done_of a (did.Waits _) = verdict.Done a
done_of a (did.LetGo to) = let_go a to
done_of a did.Left = verdict.Done a

-- what came of a call that was put to the sections
abbrev pub verdict_of : Answer → Result Done SectionRefusal → Verdict
verdict_of a (Ok done) = done_of a done
verdict_of a (Err refused.OutOfRange) = verdict.Malformed
verdict_of a (Err refused.Waiting) = verdict.Refused refusal.Waiting a
verdict_of a (Err refused.Mismatch) = verdict.Refused refusal.Mismatch a
verdict_of a (Err refused.AtLimit) = verdict.AtLimit a

-- the answer of a call that used up its number
abbrev pub recorded_of : Verdict → Option Answer
recorded_of verdict.Malformed = None
recorded_of verdict.PassedOver = None
recorded_of (verdict.Again a) = None
recorded_of (verdict.AtLimit a) = None
recorded_of (verdict.Refused r a) = Some a
recorded_of (verdict.Done a) = Some a
recorded_of (verdict.PassedOn a) = Some a

-- the numbers of refusals, answers and holders are the same in both words
abbrev pub SameNumbers : Type 0
SameNumbers =
    ((r : SectionRefusal) → refusal_number (refusal_of r) ≡ number_of r) ×
    ((a : Result Done SectionRefusal) → reply_byte (reply_of a) ≡ answer_byte a) ×
    ((h : SectionHolder) → holder_byte (holder_of h) ≡ who_byte h)
