-- What each input makes of a home, and the event that it gives. Assumes nothing.
use Rattle.std.specs.Prelude.{◌≡◌, ℕ, Bool, true, false, cond, not, ◌&&◌, ◌||◌, List, map, Some, None, Ok, Err, Option, Result, nat_le, nat_lt, slice_set}
use Rattle.std.specs.Bool.{MatchBool}
use Rattle.messages.specs.declared.yard.BoxNumber.{BoxNumber}
use Rattle.messages.specs.declared.yard.Engine.{Engine}
use Rattle.messages.specs.declared.yard.Section.{Section}
use Rattle.messages.specs.declared.message.Call.{Call}
use Rattle.messages.specs.Holder.{Holder}
use Rattle.messages.specs.declared.message.Refusal.{Refusal}
use Rattle.messages.specs.declared.message.Refusal.TheVariants as refusal
use Rattle.messages.specs.declared.message.Reply.{Reply}
use Rattle.engine_state.specs.declared.state.Event.{Event}
use Rattle.engine_state.specs.declared.state.Event.TheVariants as event
use Rattle.engine_state.specs.declared.state.State.{State}
use Rattle.engine_state.specs.Places.{same_section}
use Rattle.engine_state.specs.Calls.{take_call, free_call}
use Rattle.engine_state.specs.Inputs.{answer_at, change_at, sign_at}
use Rattle.home.specs.declared.home.Home.{Home}
use Rattle.home.specs.Noted.{Noted}
use Rattle.home.specs.Home.{is_home, is_ours, at, with, made_of}
use Rattle.home.specs.Queries.{note_at, holder_of}

-- a section of one of the yard's boxes
abbrev pub has_section : Home → Section → Bool
has_section h s = nat_lt s.keeper.0 h.yard.boxes && nat_lt s.place 64

-- the home with other notes
abbrev pub with_notes : Home → List Noted → Home
with_notes h xs = record { yard = h.yard; number = h.number; signs = h.signs; stored = h.stored; known = h.known; notes = xs }

-- a note, unless it is for a section
abbrev pub unless_for : Section → Noted → Noted
unless_for s None = None
unless_for s (Some seen) = cond (same_section seen.section s) None (Some seen)

-- what is read of an engine that asks for a section: its state, if it is ours and the section one of the yard's
abbrev pub IsStateFor : Home → Engine → Section → Result State Refusal → Type 0
IsStateFor h e s (Ok x) = (is_ours h e ≡ true) × (has_section h s ≡ true) × (x ≡ at h e)
IsStateFor h e s (Err r) = ((is_ours h e && has_section h s) ≡ false) × (r ≡ refusal.Malformed)

-- the call that a take makes: of one of ours, of a section of the yard
abbrev pub taking : Home → Engine → Section → Result Call Refusal
taking h e s = cond (is_ours h e) (cond (has_section h s) (take_call (at h e) e s) (Err refusal.Malformed)) (Err refusal.Malformed)

-- the call that a free makes
abbrev pub freeing : Home → Engine → Section → Result Call Refusal
freeing h e s = cond (is_ours h e) (cond (has_section h s) (free_call (at h e) e s) (Err refusal.Malformed)) (Err refusal.Malformed)

abbrev pub taken : Home → Result Call Refusal → Home × Event
taken h (Err r) = (h, event.Refused r)
taken h (Ok c) = (made_of h c, event.Called c)

abbrev pub take_of : Home → Engine → Section → Home × Event
take_of h e s = taken h (taking h e s)

-- a free: every note for the section is dropped
abbrev pub freed : Home → Section → Result Call Refusal → Home × Event
freed h s (Err r) = (h, event.Refused r)
freed h s (Ok c) = (with_notes (made_of h c) (map (unless_for s) (made_of h c).notes), event.Called c)

abbrev pub free_of : Home → Engine → Section → Home × Event
free_of h e s = freed h s (freeing h e s)

-- what an input makes of one engine, put into the home
abbrev pub put_in : Home → Engine → State × Event → Home × Event
put_in h e p = (with h e p.0, p.1)

-- an input at one of ours
abbrev pub at_ours : Home → Engine → (State → State × Event) → Home × Event
at_ours h e f = cond (is_ours h e) (put_in h e (f (at h e))) (h, event.Refused refusal.Malformed)

-- what a step at one of ours gave, put into the home; whatever isn't ours is turned away
abbrev pub Stepped : Home → Engine → (State → State × Event → Type 0) → Home → Event → Type 0
Stepped h e Gives g told = MatchBool (is_ours h e) ((x : State) × Gives (at h e) (x, told) × (g ≡ with h e x)) ((g ≡ h) × (told ≡ event.Refused refusal.Malformed))

abbrev pub answer_of : Home → BoxNumber → Engine → ℕ → Reply → Holder → ℕ → Home × Event
answer_of h from e n r holder change = at_ours h e (λ x. answer_at x from e h.yard.engines n r holder change)

abbrev pub change_of : Home → Engine → Section → Holder → ℕ → Home × Event
change_of h e s holder change = at_ours h e (λ x. change_at x e h.yard.engines s holder change)

-- a sign, told by the home of the one that shows it
abbrev pub sign_of : Home → BoxNumber → Engine → ℕ → Engine → ℕ → Home × Event
sign_of h from e count by sign =
    cond (is_home h.yard from by) (at_ours h e (λ x. sign_at x e count by sign)) (h, event.Refused refusal.Malformed)

-- a later beginning is noted
abbrev pub is_older : ℕ → Noted → Bool
is_older count None = false
is_older count (Some seen) = nat_lt count seen.count

-- a waiter for what one of ours holds is noted, and told the sign that this one shows
abbrev pub noted : Home → Engine → Section → ℕ → Engine → Home × Event
noted h e s count by =
    cond (nat_le 64 e.0 || is_older count (note_at h e)) (h, event.PassedOver)
    (cond (is_ours h by)
    (with_notes h (slice_set h.notes e.0 (Some (record { section = s; count = count }))), event.Noted (record { to = e; count = count; by = by; sign = (at h by).signs.shown }))
    (h, event.PassedOver))

abbrev pub noted_for : Home → Engine → Section → ℕ → Option Engine → Home × Event
noted_for h e s count None = (h, event.PassedOver)
noted_for h e s count (Some by) = noted h e s count by

-- an engine of the yard waits for a section, by a count
abbrev pub waits_of : Home → Engine → Section → ℕ → Home × Event
waits_of h e s count =
    cond (nat_le h.yard.engines e.0 || not (has_section h s)) (h, event.Refused refusal.Malformed) (noted_for h e s count (holder_of h s))
