-- What an engine is about, what it holds, and which call the driver's lines make. Assumes nothing.
use Rattle.std.specs.Prelude.{ℕ, Bool, true, false, cond, not, ◌&&◌, ◌||◌, is_some, Some, None, Ok, Err, Option, Result}
use Rattle.messages.specs.declared.yard.Engine.{Engine}
use Rattle.messages.specs.declared.yard.Section.{Section}
use Rattle.messages.specs.declared.message.Act.{Act}
use Rattle.messages.specs.declared.message.Act.TheVariants as act
use Rattle.messages.specs.declared.message.Call.{Call}
use Rattle.messages.specs.declared.message.Refusal.{Refusal}
use Rattle.messages.specs.declared.message.Refusal.TheVariants as refusal
use Rattle.signs.specs.Signs as whom
use Rattle.engine_state.specs.declared.state.Mode.{Mode}
use Rattle.engine_state.specs.declared.state.Mode.TheVariants as mode
use Rattle.engine_state.specs.declared.state.Stored.{Stored}
use Rattle.engine_state.specs.declared.state.Known.{Known}
use Rattle.engine_state.specs.declared.state.Known.TheVariants as known
use Rattle.engine_state.specs.declared.state.Asked.{Asked}
use Rattle.engine_state.specs.declared.state.Asked.TheVariants as asked
use Rattle.engine_state.specs.declared.state.State.{State}
use Rattle.engine_state.specs.declared.state.Wait.{Wait}
use Rattle.engine_state.specs.Places.{same_section, has_of, empty_of}
use Rattle.engine_state.specs.State.{mode_section, next_number}

-- what is not known to have ended
abbrev pub if_pending : {A : Type 0} → Known → Option A → Option A
if_pending known.Pending x = x
if_pending known.Had x = None
if_pending known.Closed x = None

abbrev pub call_of_mode : Mode → Engine → Option Call
call_of_mode mode.Idle e = None
call_of_mode (mode.Called a s n) e = Some (record { act = a; engine = e; section = s; number = n })
call_of_mode (mode.Waiting s c) e = None

-- a call is open while it is the mode, and pending
abbrev pub open_of : State → Engine → Option Call
open_of x e = if_pending x.known (call_of_mode x.stored.mode e)

abbrev pub wait_for : whom.Wait → Section → ℕ → ℕ → Option Wait
wait_for None s count change = None
wait_for (Some e) s count change = Some (record { section = s; whom = record { 0 = e }; count = count; change = change })

abbrev pub wait_of_mode : Mode → whom.Wait → ℕ → Option Wait
wait_of_mode mode.Idle w count = None
wait_of_mode (mode.Called a s n) w count = None
wait_of_mode (mode.Waiting s change) w count = wait_for w s count change

-- a wait stands while it is the mode, and pending
abbrev pub wait_of : State → Option Wait
wait_of x = if_pending x.known (wait_of_mode x.stored.mode x.signs.wait x.signs.count)

abbrev pub if_had : {A : Type 0} → Known → Option A → Option A
if_had known.Pending x = None
if_had known.Had x = x
if_had known.Closed x = None

-- the mode's section, if it is had
abbrev pub had_of : State → Option Section
had_of x = if_had x.known (mode_section x.stored.mode)

abbrev pub is_that : Option Section → Section → Bool
is_that None s = false
is_that (Some t) s = same_section t s

-- the same, of what is stored and what is known
abbrev pub holds_by : Stored → Known → Section → Bool
holds_by x k s = is_that (if_had k (mode_section x.mode)) s || has_of x.kept s

-- it holds the sections that are kept, and the mode's section if that is had
abbrev pub holds_of : State → Section → Bool
holds_of x s = is_that (had_of x) s || has_of x.stored.kept s

abbrev pub holds_any : State → Bool
holds_any x = is_some (had_of x) || not (empty_of x.stored.kept)

abbrev pub gave_up : Option Asked → Bool
gave_up None = false
gave_up (Some asked.Took) = false
gave_up (Some asked.GaveUp) = true

-- its last call that isn't a free is a give up, and it holds a section
abbrev pub giving_back : State → Bool
giving_back x = gave_up x.stored.asked && holds_any x

abbrev pub call_of : Act → Engine → Section → Option ℕ → Result Call Refusal
call_of a e s None = Err refusal.Exhausted
call_of a e s (Some n) = Ok (record { act = a; engine = e; section = s; number = n })

-- the next call to a section's box, while there is a number left
abbrev pub next_call : State → Act → Engine → Section → Result Call Refusal
next_call x a e s = call_of a e s (next_number x.stored s.keeper)

-- an engine calls neither while a call of it is open nor while it waits
abbrev pub may_call : State → Engine → Result (Unit {0}) Refusal
may_call x e =
    cond (is_some (open_of x e)) (Err refusal.WrongCall)
    (cond (is_some (wait_of x)) (Err refusal.Waiting) (Ok tt))

-- a take, the lowest refusal first
abbrev pub take_call : State → Engine → Section → Result Call Refusal
take_call x e s =
    cond (is_some (open_of x e) || giving_back x) (Err refusal.WrongCall)
    (cond (is_some (wait_of x)) (Err refusal.Waiting)
    (cond (holds_of x s) (Err refusal.Mismatch) (next_call x act.Take e s)))

-- a free, the lowest refusal first
abbrev pub free_call : State → Engine → Section → Result Call Refusal
free_call x e s =
    cond (is_some (open_of x e)) (Err refusal.WrongCall)
    (cond (is_some (wait_of x)) (Err refusal.Waiting)
    (cond (holds_of x s) (next_call x act.Free e s) (Err refusal.Mismatch)))
