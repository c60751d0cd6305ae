-- What is promised of every call, in plain words over the keeper before and after it. Assumes nothing.
use Rattle.std.specs.Prelude.{◌≡◌, ℕ, ◌+◌, ◌⊎◌, Ok, ◌≢◌, Some}
use Rattle.messages.specs.declared.message.Call.{Call}
use Rattle.messages.specs.declared.message.Refusal.TheVariants as refusal
use Rattle.messages.specs.declared.message.Reply.TheVariants as reply
use Rattle.sections.specs.declared.Done.{Done}
use Rattle.sections.specs.Table.{change_number_at, holder_at, place_at}
use Rattle.messages.specs.declared.message.Answer.{Answer}
use Rattle.keeper.specs.declared.Verdict.{Verdict}
use Rattle.keeper.specs.declared.Verdict.TheVariants as verdict
use Rattle.keeper.specs.Model.{State, last_of}
use Rattle.keeper.specs.Calls.{ask_of, call_of}
use Rattle.keeper.specs.Words.{done_reply, holder_of}

-- the call's number is the one after its engine's last
abbrev pub IsNext : State → Call → Type 0
IsNext before c = c.number ≡ (last_of before c.engine.0).number + 1

-- an answer names the holder and the change number as they are
abbrev pub Names : State → Call → Answer → Type 0
Names k c a = (a.holder ≡ holder_of (holder_at k.table c.section.place)) × (a.change ≡ change_number_at k.table c.section.place)

-- the call is its engine's last, with its answer
abbrev pub UsedUp : State → Call → Answer → Type 0
UsedUp k c a = last_of k c.engine.0 ≡ record { number = c.number; answer = a }

-- the sections took their own step for the call, and the answer says which
abbrev pub Stepped : State → Call → State → Answer → Type 0
Stepped before c after a = (done : Done) × (ask_of before.table c ≡ (after.table, Ok done)) × (a.reply ≡ done_reply done)

-- a call that was done: its number was the next and is used up
abbrev pub WasDone : State → Call → State → Answer → Type 0
WasDone before c after a = IsNext before c × Stepped before c after a × UsedUp after c a × Names after c a

-- 1. What a verdict means for the keeper.
abbrev pub Followed : State → Call → State → Verdict → Type 0
Followed before c after verdict.Malformed = after ≡ before
Followed before c after verdict.PassedOver = (after ≡ before) × (IsNext before c → ⊥)
Followed before c after (verdict.Again a) = (after ≡ before) × UsedUp before c a
Followed before c after (verdict.AtLimit a) = (after ≡ before) × IsNext before c × (a.reply ≡ reply.Refused refusal.Exhausted) × Names after c a
Followed before c after (verdict.Refused r a) = (after.table ≡ before.table) × IsNext before c × (a.reply ≡ reply.Refused r) × UsedUp after c a × Names after c a
Followed before c after (verdict.Done a) = WasDone before c after a
Followed before c after (verdict.PassedOn a) = WasDone before c after a × ((next : ℕ) × (a.holder ≡ Some (record { 0 = next })))

-- the verdict on the same call at once again
abbrev pub once_more : Verdict → Verdict
once_more verdict.Malformed = verdict.Malformed
once_more verdict.PassedOver = verdict.PassedOver
once_more (verdict.Again a) = verdict.Again a
once_more (verdict.AtLimit a) = verdict.AtLimit a
once_more (verdict.Refused r a) = verdict.Again a
once_more (verdict.Done a) = verdict.Again a
once_more (verdict.PassedOn a) = verdict.Again a

-- 2. The same call again changes nothing, and gets the same answer.
abbrev pub AnsweredAgain : Call → State → Verdict → Type 0
AnsweredAgain c after v = call_of after c ≡ (after, once_more v)

-- 3. No section but the call's own changes.
abbrev pub OneSection : State → Call → State → Type 0
OneSection before c after = (place : ℕ) → (place ≢ c.section.place) → place_at after.table place ≡ place_at before.table place

-- 4. Numbers only rise, by one: the caller's own to its call's. Every other engine's last call stays as it was, answer and all.
abbrev pub Risen : State → Call → State → Type 0
Risen before c after = (e : ℕ) → (last_of after e ≡ last_of before e) ⊎ ((e ≡ c.engine.0) × IsNext before c × ((last_of after e).number ≡ c.number))
