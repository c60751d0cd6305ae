-- Case by case along the definitions: each way ends in a state that its event tells.
use Rattle.std.proofs.Common.{◌≡◌, ℕ, ◌<◌, Bool, true, false, cond, ◌&&◌, eqb, ltb, ◌⊎◌, Some, None, Ok, Err, Option, Result, refl, subst, inl, inr}
use Rattle.std.proofs.lemmas.Bool.{ltb-true}
use Rattle.messages.specs.declared.yard.BoxNumber.{BoxNumber}
use Rattle.messages.specs.declared.yard.Engine.{Engine}
use Rattle.messages.specs.declared.yard.Section.{Section}
use Rattle.messages.specs.declared.message.Act.{Act}
use Rattle.messages.specs.declared.message.Act.TheVariants as act
use Rattle.messages.specs.declared.message.Call.{Call}
use Rattle.messages.specs.Holder.{Holder}
use Rattle.messages.specs.declared.message.Refusal.{Refusal}
use Rattle.messages.specs.declared.message.Refusal.TheVariants as refusal
use Rattle.messages.specs.declared.message.Reply.{Reply}
use Rattle.messages.specs.declared.message.Reply.TheVariants as reply
use Rattle.signs.specs.declared.Engine as signs
use Rattle.signs.specs.declared.Refusal as signRefusal
use Rattle.signs.specs.declared.Heard as sound
use Rattle.signs.specs.declared.Heard.TheVariants.{TellOn, Found, PassedOver}
use Rattle.signs.specs.declared.Refusal.TheVariants.{Stale}
use Rattle.signs.specs.Signs.{begin_of, listen_of, hear_of, find_of, waits_by, showing, idle}
use Rattle.engine_state.specs.declared.state.Event.{Event}
use Rattle.engine_state.specs.declared.state.Event.TheVariants as event
use Rattle.engine_state.specs.declared.state.Known.{Known}
use Rattle.engine_state.specs.declared.state.Known.TheVariants as known
use Rattle.engine_state.specs.declared.state.Mode.{Mode}
use Rattle.engine_state.specs.declared.state.Mode.TheVariants as mode
use Rattle.engine_state.specs.declared.state.State.{State}
use Rattle.engine_state.specs.declared.state.Wait.{Wait}
use Rattle.engine_state.specs.State.{knowing, next_number}
use Rattle.engine_state.specs.Calls.{if_pending, call_of_mode, open_of, wait_of, call_of}
use Rattle.engine_state.specs.Inputs.{is_engine, begun_with, begin_at, waits_for, refused_by, taken_by, ended_by, answer_to, that_call, awaited, answered, answer_at, passed_to, is_later, change_at, gave_up_by, listened, heard_waiting, sign_at}
use Rattle.home_laws.specs.Told.{Tells, EventTells}

either : (e : Engine) (x : State) (t : Bool) (p q : State × Event) → Tells e x p → Tells e x q → Tells e x (cond t p q)
either e x true p q a b = a
either e x false p q a b = b

begun_tells : (e : Engine) (x : State) (s : Section) (change : ℕ) (whom : Engine) (r : Result signs.Engine signRefusal.Refusal) → Tells e x (begun_with x e s change whom r)
begun_tells e x s change whom (Err r) = refl
begun_tells e x s change whom (Ok y) = (refl, refl)

begin_tells : (e : Engine) (x : State) (engines : ℕ) (s : Section) (change : ℕ) (whom : Engine) → Tells e x (begin_at x e engines s change whom)
begin_tells e x engines s change whom = begun_tells e x s change whom (begin_of x.signs e.0 engines whom.0)

refused_tells : (e : Engine) (x y : State) (r : Refusal) → (y ≡ knowing x known.Had) ⊎ (y ≡ knowing x known.Closed) → Tells e x (refused_by x y r)
refused_tells e x y refusal.Malformed is = is
refused_tells e x y refusal.WrongCall is = is
refused_tells e x y refusal.Waiting is = is
refused_tells e x y refusal.Mismatch is = is
refused_tells e x y refusal.Stale is = is
refused_tells e x y refusal.Exhausted is = refl

waits_tells : (x : State) (c : Call) (engines change : ℕ) (h : Holder) → Tells c.engine x (waits_for x c engines change h)
waits_tells x c engines change None = refl
waits_tells x c engines change (Some f) = either c.engine x (eqb f.0 c.engine.0) _ _ refl (begin_tells c.engine x engines c.section change f)

taken_tells : (x : State) (c : Call) (engines : ℕ) (r : Reply) (h : Holder) (change : ℕ) → Tells c.engine x (taken_by x c engines r h change)
taken_tells x c engines reply.Done h change = refl
taken_tells x c engines reply.Waits h change = waits_tells x c engines change h
taken_tells x c engines (reply.Refused r) h change = refused_tells c.engine x _ r (inr refl)

known_either : (x : State) (t : Bool) → (knowing x (cond t known.Had known.Closed) ≡ knowing x known.Had) ⊎ (knowing x (cond t known.Had known.Closed) ≡ knowing x known.Closed)
known_either x true = inl refl
known_either x false = inr refl

ended_tells : (x : State) (c : Call) (r : Reply) (h : Holder) → Tells c.engine x (ended_by x c r h)
ended_tells x c reply.Done h = refl
ended_tells x c reply.Waits h = refl
ended_tells x c (reply.Refused r) h = refused_tells c.engine x _ r (known_either x (is_engine h c.engine))

to_tells : (x : State) (c : Call) (engines : ℕ) (r : Reply) (h : Holder) (change : ℕ) (a : Act) → Tells c.engine x (answer_to x c engines r h change a)
to_tells x c engines r h change act.Take = taken_tells x c engines r h change
to_tells x c engines r h change act.Free = ended_tells x c r h
to_tells x c engines r h change act.GiveUp = ended_tells x c r h

-- the call, if there is one, is the engine's
abbrev Its : Engine → Option Call → Type 0
Its e None = Unit {0}
Its e (Some c) = c.engine ≡ e

its_mode : (e : Engine) (m : Mode) → Its e (call_of_mode m e)
its_mode e mode.Idle = tt
its_mode e (mode.Called a s n) = refl
its_mode e (mode.Waiting s c) = tt

its_pending : (e : Engine) (k : Known) (o : Option Call) → Its e o → Its e (if_pending k o)
its_pending e known.Pending o is = is
its_pending e known.Had o is = tt
its_pending e known.Closed o is = tt

its_that : (e : Engine) (from : BoxNumber) (n : ℕ) (o : Option Call) → Its e o → Its e (that_call from n o)
its_that e from n None is = tt
its_that e from n (Some c) is = one (eqb c.section.keeper.0 from.0 && eqb c.number n)
  where
    one : (t : Bool) → Its e (cond t (Some c) None)
    one true = is
    one false = tt

answered_tells : (e : Engine) (x : State) (engines : ℕ) (r : Reply) (h : Holder) (change : ℕ) (o : Option Call) → Its e o → Tells e x (answered x engines r h change o)
answered_tells e x engines r h change None is = refl
answered_tells e x engines r h change (Some c) is = subst (λ (f : Engine). Tells f x (answer_to x c engines r h change c.act)) is (to_tells x c engines r h change c.act)

answer_tells : (x : State) (from : BoxNumber) (e : Engine) (engines n : ℕ) (r : Reply) (h : Holder) (change : ℕ) → Tells e x (answer_at x from e engines n r h change)
unfolding answer_at
answer_tells x from e engines n r h change =
    answered_tells e x engines r h change (awaited x from e n) (its_that e from n (open_of x e) (its_pending e x.known (call_of_mode x.stored.mode e) (its_mode e x.stored.mode)))

passed_tells : (e : Engine) (x : State) (engines : ℕ) (s : Section) (change : ℕ) (h : Holder) → Tells e x (passed_to x e engines s change h)
passed_tells e x engines s change None = refl
passed_tells e x engines s change (Some f) = either e x (eqb f.0 e.0) _ _ refl (begin_tells e x engines s change f)

change_tells : (x : State) (e : Engine) (engines : ℕ) (s : Section) (h : Holder) (change : ℕ) → Tells e x (change_at x e engines s h change)
unfolding change_at
change_tells x e engines s h change = either e x (is_later (wait_of x) s change) (passed_to x e engines s change h) (x, event.PassedOver) (passed_tells e x engines s change h) refl

gave_up_tells : (e : Engine) (x : State) (s : Section) (o : Option ℕ) → Tells e x (gave_up_by x (call_of act.GiveUp e s o))
gave_up_tells e x s None = refl
gave_up_tells e x s (Some n) = (refl, refl)

-- a sign that is told on is above the one shown
abbrev Rises : signs.Engine → Result (signs.Engine × sound.Heard) signRefusal.Refusal → Type 0
Rises g (Err r) = Unit {0}
Rises g (Ok (y, TellOn sign)) = g.shown < sign
Rises g (Ok (y, Found)) = Unit {0}
Rises g (Ok (y, PassedOver)) = Unit {0}

found_rises : (g : signs.Engine) (w t : Bool) → Rises g (cond w (cond t (Ok (idle g, Found)) (Ok (g, PassedOver))) (Err Stale))
found_rises g true true = tt
found_rises g true false = tt
found_rises g false t = tt

pub listen_rises : (g : signs.Engine) (by count sign : ℕ) → Rises g (listen_of g by count sign)
listen_rises g by count sign = by-test (ltb g.shown sign) refl
  where
    heard-rises : (w t : Bool) → ltb g.shown sign ≡ t → Rises g (cond w (cond t (Ok (showing g sign, TellOn sign)) (Ok (g, PassedOver))) (Err Stale))
    heard-rises true true is = ltb-true g.shown sign is
    heard-rises true false is = tt
    heard-rises false t is = tt

    by-test : (t : Bool) → ltb g.shown sign ≡ t → Rises g (cond t (hear_of g by count sign) (find_of g by count sign))
    by-test true is = heard-rises (waits_by g by count) (ltb g.shown sign) refl
    by-test false is = found_rises g (waits_by g by count) (eqb sign g.own && eqb g.shown g.own)

listened_tells :
    (e : Engine) (x : State) (s : Section) (r : Result (signs.Engine × sound.Heard) signRefusal.Refusal) → Rises x.signs r → Tells e x (listened x e s r)
listened_tells e x s (Err r) up = refl
listened_tells e x s (Ok (y, TellOn sign)) up = (refl, up, refl)
listened_tells e x s (Ok (y, Found)) up = gave_up_tells e x s (next_number x.stored s.keeper)
listened_tells e x s (Ok (y, PassedOver)) up = refl

heard_tells : (e : Engine) (x : State) (count : ℕ) (by : Engine) (sign : ℕ) (w : Option Wait) → Tells e x (heard_waiting x e count by sign w)
heard_tells e x count by sign None = refl
heard_tells e x count by sign (Some w) =
    listened_tells e x w.section (listen_of x.signs by.0 count sign) (listen_rises x.signs by.0 count sign)

sign_tells : (x : State) (e : Engine) (count : ℕ) (by : Engine) (sign : ℕ) → Tells e x (sign_at x e count by sign)
unfolding sign_at
sign_tells x e count by sign = heard_tells e x count by sign (wait_of x)

pub event_tells : EventTells
event_tells = (answer_tells, change_tells, sign_tells)
