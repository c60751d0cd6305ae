-- The engines of a box, read and changed at one of them. Assumes nothing.
use Rattle.std.specs.Prelude.{◌≡◌, ℕ, ◌%◌, Bool, true, false, cond, ◌&&◌, replicate, Ok, Err, Result, ◌==◌, nat_lt, slice_index_or, slice_set, None}
use Rattle.std.specs.Bool.{MatchBool}
use Rattle.messages.specs.declared.yard.BoxNumber.{BoxNumber}
use Rattle.messages.specs.declared.yard.Engine.{Engine}
use Rattle.messages.specs.declared.yard.Section.{Section}
use Rattle.messages.specs.declared.yard.Yard.{Yard}
use Rattle.messages.specs.declared.message.Call.{Call}
use Rattle.messages.specs.declared.message.Record.{Record}
use Rattle.messages.specs.declared.message.Record.TheVariants as journal
use Rattle.messages.specs.declared.message.Refusal.{Refusal}
use Rattle.messages.specs.declared.message.Refusal.TheVariants as refusal
use Rattle.signs.specs.Table as table
use Rattle.engine_state.specs.declared.state.Known.TheVariants as known
use Rattle.engine_state.specs.declared.state.State.{State}
use Rattle.home.specs.declared.home.Home.{Home}
use Rattle.engine_state.specs.State.{blank, unread, made, begun, heard}

-- a box of which there is no record yet
abbrev pub fresh_home : Yard → BoxNumber → Home
fresh_home y b = record {
  yard = y;
  number = b;
  signs = table.fresh_of;
  stored = replicate 64 blank;
  known = replicate 64 known.Pending;
  notes = replicate 64 None;
}

-- the home of an engine is the box that its number leaves when divided by the number of boxes
abbrev pub is_home : Yard → BoxNumber → Engine → Bool
is_home y b e = nat_lt e.0 y.engines && e.0 % y.boxes == b.0

abbrev pub is_ours : Home → Engine → Bool
is_ours h e = is_home h.yard h.number e

-- one engine of a home, read
abbrev pub at : Home → Engine → State
at h e = record { stored = slice_index_or h.stored e.0 unread; known = slice_index_or h.known e.0 known.Pending; signs = table.engine_at h.signs e.0 }

-- the home with another state of one engine
abbrev pub with : Home → Engine → State → Home
with h e x = record {
  yard = h.yard;
  number = h.number;
  signs = table.with h.signs e.0 x.signs;
  stored = slice_set h.stored e.0 x.stored;
  known = slice_set h.known e.0 x.known;
  notes = h.notes;
}

-- what is read of an engine: its state, if it is ours
abbrev pub IsState : Home → Engine → Result State Refusal → Type 0
IsState h e (Ok x) = (is_ours h e ≡ true) × (x ≡ at h e)
IsState h e (Err r) = (is_ours h e ≡ false) × (r ≡ refusal.Malformed)

-- a change of one of ours; whatever isn't ours is passed over
abbrev pub if_ours : Home → Engine → (State → State) → Home
if_ours h e f = cond (is_ours h e) (with h e (f (at h e))) h

-- what is recorded of one of ours has changed it as told; whatever isn't ours is passed over
abbrev pub Recorded : Home → Engine → (State → State → Type 0) → Home → Type 0
Recorded h e Changes g = MatchBool (is_ours h e) ((x : State) × Changes (at h e) x × (g ≡ with h e x)) (g ≡ h)

-- a call of one of ours, made
abbrev pub made_of : Home → Call → Home
made_of h c = if_ours h c.engine (λ x. made x c)

-- a beginning of one of ours
abbrev pub begun_of : Home → Engine → Section → ℕ → Engine → ℕ → ℕ → Home
begun_of h e s change whom count own = if_ours h e (λ x. begun x s change whom count own)

-- a sign that one of ours heard
abbrev pub heard_of : Home → Engine → ℕ → Home
heard_of h e sign = if_ours h e (λ x. heard x sign)

-- what a record makes of a home
abbrev pub apply_of : Home → Record → Home
apply_of h (journal.Kept c) = h
apply_of h (journal.Made c) = made_of h c
apply_of h (journal.Beginning holder waits own) = begun_of h waits.engine waits.section waits.change holder waits.count own
apply_of h (journal.Heard e sign) = heard_of h e sign
