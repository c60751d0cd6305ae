-- An event tells what became of its engine. Assumes nothing.
use Rattle.std.specs.Prelude.{◌≡◌, ℕ, ◌<◌, ◌⊎◌}
use Rattle.messages.specs.declared.yard.BoxNumber.{BoxNumber}
use Rattle.messages.specs.declared.yard.Engine.{Engine}
use Rattle.messages.specs.declared.yard.Section.{Section}
use Rattle.messages.specs.Holder.{Holder}
use Rattle.messages.specs.declared.message.Reply.{Reply}
use Rattle.engine_state.specs.declared.state.Event.{Event}
use Rattle.engine_state.specs.declared.state.Event.TheVariants as event
use Rattle.engine_state.specs.declared.state.Known.TheVariants as known
use Rattle.engine_state.specs.declared.state.State.{State}
use Rattle.engine_state.specs.State.{made, begun, heard, knowing}
use Rattle.engine_state.specs.Inputs.{answer_at, change_at, sign_at}

-- the engine e was x and is y: what each event says of that
abbrev pub Became : Engine → State → Event → State → Type 0
Became e x event.PassedOver y = y ≡ x
Became e x (event.Refused r) y = y ≡ x
Became e x (event.RefusedBy r) y = (y ≡ knowing x known.Had) ⊎ (y ≡ knowing x known.Closed)
Became e x (event.Had f s) y = y ≡ knowing x known.Had
Became e x event.Closed y = y ≡ knowing x known.Closed
Became e x (event.Called c) y = (c.engine ≡ e) × (y ≡ made x c)
Became e x (event.Found c) y = (c.engine ≡ e) × (y ≡ made x c)
Became e x (event.Began start) y = (start.engine ≡ e) × (y ≡ begun x start.section start.change start.holder start.count start.own)
Became e x (event.Heard f sign) y = (f ≡ e) × (x.signs.shown < sign) × (y ≡ heard x sign)
Became e x (event.Noted telling) y = y ≡ x

abbrev pub Tells : Engine → State → State × Event → Type 0
Tells e x p = Became e x p.1 p.0

-- after an answer, a change or a sign the event tells what became of the engine
abbrev pub EventTells : Type 0
EventTells =
    ((x : State) (from : BoxNumber) (e : Engine) (engines n : ℕ) (r : Reply) (h : Holder) (change : ℕ) → Tells e x (answer_at x from e engines n r h change)) ×
    ((x : State) (e : Engine) (engines : ℕ) (s : Section) (h : Holder) (change : ℕ) → Tells e x (change_at x e engines s h change)) ×
    ((x : State) (e : Engine) (count : ℕ) (by : Engine) (sign : ℕ) → Tells e x (sign_at x e count by sign))
