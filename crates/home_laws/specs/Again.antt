-- What comes again changes nothing the second time; and the own sign never passes the sign shown. Assumes nothing.
use Rattle.std.specs.Prelude.{◌≡◌, ℕ, ◌≤◌}
use Rattle.messages.specs.declared.yard.BoxNumber.{BoxNumber}
use Rattle.messages.specs.declared.yard.Engine.{Engine}
use Rattle.messages.specs.declared.yard.Section.{Section}
use Rattle.messages.specs.Holder.{Holder}
use Rattle.messages.specs.declared.message.Reply.{Reply}
use Rattle.engine_state.specs.declared.state.Event.{Event}
use Rattle.engine_state.specs.declared.state.State.{State}
use Rattle.engine_state.specs.Inputs.{answer_at, change_at, sign_at}
use Rattle.home_laws.specs.Told.{Became}

-- the own sign is not above the sign shown
abbrev pub Ordered : State → Type 0
Ordered x = x.signs.own ≤ x.signs.shown

-- whatever an event tells keeps it so
abbrev pub OrderedKept : Type 0
OrderedKept = (e : Engine) (x : State) (v : Event) (y : State) → Became e x v y → Ordered x → Ordered y

-- done twice in a row, the second time changes nothing
abbrev pub Once : (State → State × Event) → State → Type 0
Once f x = (f (f x).0).0 ≡ (f x).0

-- the same answer, the same change and the same sign again change nothing
abbrev pub SameAgain : Type 0
SameAgain =
    ((from : BoxNumber) (e : Engine) (engines n : ℕ) (r : Reply) (h : Holder) (change : ℕ) (x : State) → Once (λ y. answer_at y from e engines n r h change) x) ×
    ((e : Engine) (engines : ℕ) (s : Section) (h : Holder) (change : ℕ) (x : State) → Once (λ y. change_at y e engines s h change) x) ×
    ((e : Engine) (count : ℕ) (by : Engine) (sign : ℕ) (x : State) → Ordered x → Once (λ y. sign_at y e count by sign) x)
