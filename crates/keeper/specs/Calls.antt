-- What a keeper makes of a call: the machine that the code is held to. Assumes nothing.
use Rattle.std.specs.Prelude.{ℕ, ◌+◌, cond, Option, None, Some, Result, ◌==◌, slice_set}
use Rattle.messages.specs.declared.message.Act.{Act}
use Rattle.messages.specs.declared.message.Act.TheVariants as act
use Rattle.messages.specs.declared.message.Call.{Call}
use Rattle.sections.specs.declared.Done.{Done}
use Rattle.sections.specs.declared.Refusal.{Refusal}
use Rattle.sections.specs.Table.{Table, change_number_at, free_of, give_up_of, holder_at, known, take_of}
use Rattle.messages.specs.declared.message.Answer.{Answer}
use Rattle.keeper.specs.declared.LastCall.{LastCall}
use Rattle.keeper.specs.declared.Verdict.{Verdict}
use Rattle.keeper.specs.declared.Verdict.TheVariants as verdict
use Rattle.keeper.specs.declared.calls.Turn.{Turn}
use Rattle.keeper.specs.declared.calls.Turn.TheVariants as turn
use Rattle.keeper.specs.Model.{State, last_of}
use Rattle.keeper.specs.Words.{holder_of, recorded_of, reply_of, verdict_of}

-- the sections' own step for each kind of call
abbrev pub do_by : Act → Table → ℕ → ℕ → Table × Result Done Refusal
do_by act.Take t e p = take_of t e p
do_by act.Free t e p = free_of t e p
do_by act.GiveUp t e p = give_up_of t e p

-- what the sections make of a call
abbrev pub ask_of : Table → Call → Table × Result Done Refusal
ask_of t c = do_by c.act t c.engine.0 c.section.place

-- an answer names the holder and the change number as they are in the table
abbrev pub answer_of : Table → ℕ → Result Done Refusal → Answer
answer_of t p result = record { reply = reply_of result; holder = holder_of (holder_at t p); change = change_number_at t p }

-- an engine's last call, after one of this number, with the answer if that used it up
abbrev pub after_number : LastCall → ℕ → Option Answer → LastCall
after_number last n None = last
after_number last n (Some a) = record { number = n; answer = a }

abbrev pub used_of : LastCall → ℕ → Verdict → LastCall
used_of last n v = after_number last n (recorded_of v)

-- the keeper with sections and a verdict on a call of an engine
abbrev pub kept_of : State → Call → Table → Verdict → State × Verdict
kept_of k c t v = (record { table = t; calls = slice_set k.calls c.engine.0 (used_of (last_of k c.engine.0) c.number v) }, v)

-- what came of a call, by the sections afterwards and their answer
abbrev pub ruled_of : State → Call → Table × Result Done Refusal → State × Verdict
ruled_of k c asked = kept_of k c asked.0 (verdict_of (answer_of asked.0 c.section.place asked.1) asked.1)

-- a call whose number is the next is put to the sections
abbrev pub tried_of : State → Call → State × Verdict
tried_of k c = ruled_of k c (ask_of k.table c)

-- how a number stands to that of the last call
abbrev pub turn_of : ℕ → ℕ → Turn
turn_of last n = cond (n == 0) turn.Other (cond (n == last) turn.Last (cond (n == last + 1) turn.Next turn.Other))

-- a call by how its number stands: answered again, put to the sections, or passed over
abbrev pub numbered_of : Turn → State → Call → State × Verdict
numbered_of turn.Last k c = (k, verdict.Again (last_of k c.engine.0).answer)
numbered_of turn.Next k c = tried_of k c
numbered_of turn.Other k c = (k, verdict.PassedOver)

-- THE CALL: the keeper afterwards, and what came of it
abbrev pub call_of : State → Call → State × Verdict
call_of k c = cond (known c.engine.0 c.section.place) (numbered_of (turn_of (last_of k c.engine.0).number c.number) k c) (k, verdict.Malformed)

-- the same from a record: the keeper afterwards
abbrev pub apply_of : State → Call → State
apply_of k c = (call_of k c).0
