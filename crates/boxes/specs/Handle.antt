-- THE BOX: what each input makes of it, and what it gives to be recorded, sent and printed. Assumes nothing.
use Rattle.std.specs.Prelude.{ℕ, cond, List, Some, None, Ok, Err, Option, Result, ◌==◌}
use Rattle.std.specs.Option.{ok_or}
use Rattle.messages.specs.declared.yard.BoxNumber.{BoxNumber}
use Rattle.messages.specs.declared.yard.Engine.{Engine}
use Rattle.messages.specs.declared.yard.Section.{Section}
use Rattle.messages.specs.declared.message.Call.{Call}
use Rattle.messages.specs.Holder.{Holder}
use Rattle.messages.specs.declared.message.Message.{Message}
use Rattle.messages.specs.declared.message.Message.TheVariants as message
use Rattle.messages.specs.declared.message.Refusal.{Refusal}
use Rattle.messages.specs.declared.message.Refusal.TheVariants as refusal
use Rattle.messages.specs.Reading.{message_of}
use Rattle.sections.specs.Table.{change_number_at, holder_at}
use Rattle.keeper.specs.Words.{holder_of}
use Rattle.signs.specs.declared.Engine as signs
use Rattle.engine_state.specs.declared.state.Event.{Event}
use Rattle.engine_state.specs.declared.state.Wait.{Wait}
use Rattle.home.specs.declared.home.Home.{Home}
use Rattle.home.specs.Home.{is_home, is_ours}
use Rattle.home.specs.Queries.{engine, open_at, wait_at, signs_at, giving_back_at}
use Rattle.home.specs.Inputs.{take_of, free_of, answer_of, change_of, sign_of, waits_of}
use Rattle.journal.specs.declared.output.Output.TheVariants as output
use Rattle.boxes.specs.declared.signal_box.Input.{Input}
use Rattle.boxes.specs.declared.signal_box.Input.TheVariants as input
use Rattle.boxes.specs.Log.{Log, said, sent, each}
use Rattle.messages.specs.Homes.{home_of}
use Rattle.boxes.specs.Emit.{emit_of, tells_of}
use Rattle.boxes.specs.Model.{State, with_home}
use Rattle.boxes.specs.Keeping.{refused, called_at, which_at}

-- what came of an input at one engine
abbrev pub happened : State → Home × Event → Log → State × Log
happened b p l = (with_home b p.0, emit_of p.0 p.1 l)

-- a change, heard by one engine if it is ours
abbrev pub change_for : Section → Holder → ℕ → Engine → State × Log → State × Log
change_for s h change e p = cond (is_ours p.0.home e) (happened p.0 (change_of p.0.home e s h change) p.1) p

-- a change, from the section's box, heard by each of ours by number
abbrev pub changed_at : State → BoxNumber → Section → Holder → ℕ → Log → State × Log
changed_at b from s h change l =
    cond (from.0 == s.keeper.0) (each (λ n. change_for s h change (engine n)) b.home.yard.engines (b, l)) (refused b l)

-- that an engine waits for a section here, sent on to the home of the one that has it
abbrev pub wait_sent : State → Engine → Section → ℕ → ℕ → Holder → Log → State × Log
wait_sent b e s count change None l = (b, l)
wait_sent b e s count change (Some y) l =
    cond ((home_of b.home.yard y).0 == b.home.number.0)
    (happened b (waits_of b.home e s count) l)
    (b, sent l (home_of b.home.yard y) (message.Waits (record { engine = e; section = s; count = count; change = change })))

-- that an engine waits for a section here, of the section's last change
abbrev pub wait_here : State → Engine → Section → ℕ → ℕ → Log → State × Log
wait_here b e s count change l =
    cond (change == change_number_at b.keeper.table s.place)
    (wait_sent b e s count change (holder_of (holder_at b.keeper.table s.place)) l)
    (b, l)

abbrev pub wait_from_home : State → BoxNumber → Engine → Section → ℕ → ℕ → Log → State × Log
wait_from_home b from e s count change l = cond (is_home b.home.yard from e) (wait_here b e s count change l) (refused b l)

abbrev pub wait_from_keeper : State → BoxNumber → Engine → Section → ℕ → Log → State × Log
wait_from_keeper b from e s count l = cond (from.0 == s.keeper.0) (happened b (waits_of b.home e s count) l) (refused b l)

-- that an engine waits: from its home for a section here, and from the section's box for one elsewhere
abbrev pub wait_at_box : State → BoxNumber → Engine → Section → ℕ → ℕ → Log → State × Log
wait_at_box b from e s count change l =
    cond (s.keeper.0 == b.home.number.0) (wait_from_home b from e s count change l) (wait_from_keeper b from e s count l)

-- one message, from its sender
abbrev pub received_of : State → BoxNumber → Message → Log → State × Log
received_of b from (message.Call c) l = called_at b from c l
received_of b from (message.Answer e n answer) l = happened b (answer_of b.home from e n answer.reply answer.holder answer.change) l
received_of b from (message.Change news) l = changed_at b from news.section news.holder news.change l
received_of b from (message.WhichChange e s) l = which_at b from e s l
received_of b from (message.Sign telling) l = happened b (sign_of b.home from telling.to telling.count telling.by telling.sign) l
received_of b from (message.Waits waiting) l = wait_at_box b from waiting.engine waiting.section waiting.count waiting.change l

-- what was decoded; what is no message is turned away
abbrev pub decoded_of : State → BoxNumber → Result Message Refusal → Log → State × Log
decoded_of b from (Ok m) l = received_of b from m l
decoded_of b from (Err r) l = (b, said l (output.Refused r))

-- the bytes of a message, from its sender
abbrev pub delivered_of : State → BoxNumber → List ℕ → Log → State × Log
delivered_of b from bytes l = decoded_of b from (ok_or (message_of b.home.yard bytes) refusal.Malformed) l

abbrev pub open_again : Option Call → Log → Log
open_again None l = l
open_again (Some c) l = sent l c.section.keeper (message.Call c)

-- a wait, said again to the section's box, which is asked for the last change
abbrev pub wait_again : Engine → Option Wait → Log → Log
wait_again e None l = l
wait_again e (Some w) l =
    sent (sent l w.section.keeper (message.Waits (record { engine = e; section = w.section; count = w.count; change = w.change }))) w.section.keeper (message.WhichChange e w.section)

abbrev pub tell_again : Home → Engine → Option signs.Engine → Log → Log
tell_again h e None l = l
tell_again h e (Some x) l = tells_of h e x.shown l

-- a second, for one engine
abbrev pub second_for : Home → Engine → Log → Log
second_for h e l = tell_again h e (signs_at h e) (wait_again e (wait_at h e) (open_again (open_at h e) l))

-- a second: every engine of ours by number
abbrev pub second_of : Home → Log → Log
second_of h l = each (λ n. second_for h (engine n)) h.yard.engines l

-- what a box makes of an input
abbrev pub handle_of : State → Input → Log → State × Log
handle_of b (input.Take e s) l = happened b (take_of b.home e s) l
handle_of b (input.Free e s) l = happened b (free_of b.home e s) l
handle_of b (input.Received from m) l = received_of b from m l
handle_of b input.Second l = (b, second_of b.home l)

-- the reminder, on opening, for one engine that is giving back
abbrev pub reminder_for : Home → Engine → Log → Log
reminder_for h e l = cond (giving_back_at h e) (said l (output.GivingBack e)) l

abbrev pub reminders_of : Home → Log → Log
reminders_of h l = each (λ n. reminder_for h (engine n)) h.yard.engines l
