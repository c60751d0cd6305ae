-- What is recorded, sent and printed of each event at a home. Assumes nothing.
use Rattle.std.specs.Prelude.{ℕ, cond, None, Some}
use Rattle.messages.specs.declared.yard.Engine.{Engine}
use Rattle.messages.specs.declared.yard.Section.{Section}
use Rattle.messages.specs.Homes.{home_of}
use Rattle.messages.specs.declared.message.Call.{Call}
use Rattle.messages.specs.declared.message.Sign.{Sign}
use Rattle.messages.specs.declared.message.Message.TheVariants as message
use Rattle.messages.specs.declared.message.Record.TheVariants as journal
use Rattle.engine_state.specs.declared.state.Event.{Event}
use Rattle.engine_state.specs.declared.state.Event.TheVariants as event
use Rattle.home.specs.declared.home.Home.{Home}
use Rattle.home.specs.Noted.{Noted}
use Rattle.home.specs.Queries.{engine, holds_at, note_at}
use Rattle.journal.specs.declared.output.Output.TheVariants as output
use Rattle.boxes.specs.Log.{Log, recorded, said, sent, each}

-- a sign, to the home of the engine that it is told to
abbrev pub sign_sent : Home → Sign → Log → Log
sign_sent h s l = sent l (home_of h.yard s.to) (message.Sign s)

-- the sign that one of ours shows, to an engine that is noted as waiting for what it holds
abbrev pub tell_noted : Home → Engine → ℕ → Engine → Noted → Log → Log
tell_noted h by sign x None l = l
tell_noted h by sign x (Some seen) l = cond (holds_at h by seen.section) (sign_sent h (record { to = x; count = seen.count; by = by; sign = sign }) l) l

abbrev pub tell_of : Home → Engine → ℕ → Engine → Log → Log
tell_of h by sign x l = tell_noted h by sign x (note_at h x) l

-- the same to all of its waiters, by number
abbrev pub tells_of : Home → Engine → ℕ → Log → Log
tells_of h by sign l = each (λ n. tell_of h by sign (engine n)) h.yard.engines l

abbrev pub called_of : Call → Log → Log
called_of c l = sent (recorded l (journal.Made c)) c.section.keeper (message.Call c)

abbrev pub found_of : Call → Log → Log
found_of c l = sent (said (recorded l (journal.Made c)) (output.GiveBack c.engine)) c.section.keeper (message.Call c)

abbrev pub began_of : Home → Engine → Section → ℕ → Engine → ℕ → ℕ → Log → Log
began_of h e s change whom count own l =
    tells_of h e own (sent (recorded l (journal.Beginning whom (record { engine = e; section = s; count = count; change = change }) own)) s.keeper (message.Waits (record { engine = e; section = s; count = count; change = change })))

-- what an event gives, in its order
abbrev pub emit_of : Home → Event → Log → Log
emit_of h event.PassedOver l = l
emit_of h (event.Refused r) l = said l (output.Refused r)
emit_of h (event.RefusedBy r) l = said l (output.Refused r)
emit_of h (event.Had e s) l = said l (output.Had e s)
emit_of h event.Closed l = l
emit_of h (event.Called c) l = called_of c l
emit_of h (event.Found c) l = found_of c l
emit_of h (event.Began start) l = began_of h start.engine start.section start.change start.holder start.count start.own l
emit_of h (event.Heard e sign) l = tells_of h e sign (recorded l (journal.Heard e sign))
emit_of h (event.Noted s) l = sign_sent h s l
