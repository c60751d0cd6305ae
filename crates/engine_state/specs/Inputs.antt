-- What answers, changes and signs make of one engine, and the event that each gives. Assumes nothing.
use Rattle.std.specs.Prelude.{ℕ, Bool, false, cond, ◌&&◌, Some, None, Ok, Err, Option, Result, ◌==◌, nat_lt}
use Rattle.messages.specs.declared.yard.BoxNumber.{BoxNumber}
use Rattle.messages.specs.declared.yard.Engine.{Engine}
use Rattle.messages.specs.declared.yard.Section.{Section}
use Rattle.messages.specs.declared.message.Act.{Act}
use Rattle.messages.specs.declared.message.Act.TheVariants as act
use Rattle.messages.specs.declared.message.Call.{Call}
use Rattle.messages.specs.Holder.{Holder}
use Rattle.messages.specs.declared.message.Refusal.{Refusal}
use Rattle.messages.specs.declared.message.Refusal.TheVariants as refusal
use Rattle.messages.specs.declared.message.Reply.{Reply}
use Rattle.messages.specs.declared.message.Reply.TheVariants as reply
use Rattle.signs.specs.declared.Engine as signs
use Rattle.signs.specs.declared.Refusal as sign_refusal
use Rattle.signs.specs.declared.Refusal.TheVariants.{OutOfRange, Itself, Stale, Limit}
use Rattle.signs.specs.declared.Heard as sound
use Rattle.signs.specs.declared.Heard.TheVariants.{TellOn, Found, PassedOver}
use Rattle.signs.specs.Signs.{begin_of, listen_of}
use Rattle.engine_state.specs.declared.state.Event.{Event}
use Rattle.engine_state.specs.declared.state.Event.TheVariants as event
use Rattle.engine_state.specs.declared.state.Known.TheVariants as known
use Rattle.engine_state.specs.declared.state.State.{State}
use Rattle.engine_state.specs.declared.state.Wait.{Wait}
use Rattle.engine_state.specs.Places.{same_section}
use Rattle.engine_state.specs.State.{made, begun, heard, knowing}
use Rattle.engine_state.specs.Calls.{open_of, wait_of, next_call}

-- the refusals of signs, by the yard's numbers
abbrev pub refused_for : sign_refusal.Refusal → Refusal
refused_for OutOfRange = refusal.Malformed
refused_for Itself = refusal.Mismatch
refused_for Stale = refusal.Stale
refused_for Limit = refusal.Exhausted

abbrev pub is_engine : Holder → Engine → Bool
is_engine None e = false
is_engine (Some x) e = x.0 == e.0

-- turned away: nothing changes
abbrev pub refuse : State → Refusal → State × Event
refuse x r = (x, event.Refused r)

-- what is told of a step that turned the input away or not
abbrev pub told : Result Event Refusal → Event
told (Err r) = event.Refused r
told (Ok e) = e

abbrev pub begun_with : State → Engine → Section → ℕ → Engine → Result signs.Engine sign_refusal.Refusal → State × Event
begun_with x e s change whom (Err r) = refuse x (refused_for r)
begun_with x e s change whom (Ok y) = (begun x s change whom y.count y.own, event.Began (record { engine = e; section = s; change = change; holder = whom; count = y.count; own = y.own }))

-- the engine begins to wait for whom, or has no count or sign left
abbrev pub begin_at : State → Engine → ℕ → Section → ℕ → Engine → State × Event
begin_at x e engines s change whom = begun_with x e s change whom (begin_of x.signs e.0 engines whom.0)

-- a take is answered that another has the section
abbrev pub waits_for : State → Call → ℕ → ℕ → Holder → State × Event
waits_for x c engines change None = refuse x refusal.WrongCall
waits_for x c engines change (Some e) =
    cond (e.0 == c.engine.0) (refuse x refusal.WrongCall) (begin_at x c.engine engines c.section change e)

-- refused by the keeper: for want of a number the call stays open, else its business ended so
abbrev pub refused_by : State → State → Refusal → State × Event
refused_by x y refusal.Malformed = (y, event.RefusedBy refusal.Malformed)
refused_by x y refusal.WrongCall = (y, event.RefusedBy refusal.WrongCall)
refused_by x y refusal.Waiting = (y, event.RefusedBy refusal.Waiting)
refused_by x y refusal.Mismatch = (y, event.RefusedBy refusal.Mismatch)
refused_by x y refusal.Stale = (y, event.RefusedBy refusal.Stale)
refused_by x y refusal.Exhausted = refuse x refusal.Exhausted

-- the answer to an open take
abbrev pub taken_by : State → Call → ℕ → Reply → Holder → ℕ → State × Event
taken_by x c engines reply.Done h change = (knowing x known.Had, event.Had c.engine c.section)
taken_by x c engines reply.Waits h change = waits_for x c engines change h
taken_by x c engines (reply.Refused r) h change = refused_by x (knowing x known.Closed) r

-- the answer to an open free or give up
abbrev pub ended_by : State → Call → Reply → Holder → State × Event
ended_by x c reply.Done h = (knowing x known.Closed, event.Closed)
ended_by x c reply.Waits h = refuse x refusal.WrongCall
ended_by x c (reply.Refused r) h = refused_by x (knowing x (cond (is_engine h c.engine) known.Had known.Closed)) r

abbrev pub answer_to : State → Call → ℕ → Reply → Holder → ℕ → Act → State × Event
answer_to x c engines r h change act.Take = taken_by x c engines r h change
answer_to x c engines r h change act.Free = ended_by x c r h
answer_to x c engines r h change act.GiveUp = ended_by x c r h

abbrev pub that_call : BoxNumber → ℕ → Option Call → Option Call
that_call from n None = None
that_call from n (Some c) = cond (c.section.keeper.0 == from.0 && c.number == n) (Some c) None

-- the open call, if it is to that box and has that number
abbrev pub awaited : State → BoxNumber → Engine → ℕ → Option Call
awaited x from e n = that_call from n (open_of x e)

abbrev pub answered : State → ℕ → Reply → Holder → ℕ → Option Call → State × Event
answered x engines r h change None = refuse x refusal.WrongCall
answered x engines r h change (Some c) = answer_to x c engines r h change c.act

-- an answer of a box to the call of that number
unfoldable pub answer_at : State → BoxNumber → Engine → ℕ → ℕ → Reply → Holder → ℕ → State × Event
answer_at x from e engines n r h change = answered x engines r h change (awaited x from e n)

abbrev pub passed_to : State → Engine → ℕ → Section → ℕ → Holder → State × Event
passed_to x e engines s change None = (x, event.PassedOver)
passed_to x e engines s change (Some y) =
    cond (y.0 == e.0) (knowing x known.Had, event.Had e s) (begin_at x e engines s change y)

-- a later change of the section that is waited for
abbrev pub is_later : Option Wait → Section → ℕ → Bool
is_later None s change = false
is_later (Some w) s change = same_section w.section s && nat_lt w.change change

-- a section has passed to a holder, by a change
unfoldable pub change_at : State → Engine → ℕ → Section → Holder → ℕ → State × Event
change_at x e engines s h change = cond (is_later (wait_of x) s change) (passed_to x e engines s change h) (x, event.PassedOver)

abbrev pub gave_up_by : State → Result Call Refusal → State × Event
gave_up_by x (Err r) = refuse x r
gave_up_by x (Ok c) = (made x c, event.Found c)

-- the engine stands in a ring: it gives up the section that it waits for
abbrev pub found_at : State → Engine → Section → State × Event
found_at x e s = gave_up_by x (next_call x act.GiveUp e s)

abbrev pub listened : State → Engine → Section → Result (signs.Engine × sound.Heard) sign_refusal.Refusal → State × Event
listened x e s (Err r) = refuse x (refused_for r)
listened x e s (Ok (y, TellOn sign)) = (heard x sign, event.Heard e sign)
listened x e s (Ok (y, Found)) = found_at x e s
listened x e s (Ok (y, PassedOver)) = (x, event.PassedOver)

-- a sign is told to one that waits for the teller, by that count
abbrev pub heard_waiting : State → Engine → ℕ → Engine → ℕ → Option Wait → State × Event
heard_waiting x e count by sign None = refuse x refusal.Stale
heard_waiting x e count by sign (Some w) = listened x e w.section (listen_of x.signs by.0 count sign)

unfoldable pub sign_at : State → Engine → ℕ → Engine → ℕ → State × Event
sign_at x e count by sign = heard_waiting x e count by sign (wait_of x)
