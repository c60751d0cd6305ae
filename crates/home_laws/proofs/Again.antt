-- An answer, a change or a sign either changes nothing, or leaves a state in which it is turned away.
use Rattle.std.proofs.Common.{◌≡◌, ℕ, ◌<◌, Bool, true, false, cond, ◌&&◌, eqb, ltb, ◌⊎◌, Some, None, Ok, Err, Option, Result, sym, refl, ap, ◌∙◌, subst, inl, inr, arith}
use Rattle.std.proofs.lemmas.Bool.{ltb-true, le-ltb, ne_eqb, and_right, and_left}
use Rattle.messages.specs.declared.yard.BoxNumber.{BoxNumber}
use Rattle.messages.specs.declared.yard.Engine.{Engine}
use Rattle.messages.specs.declared.yard.Section.{Section}
use Rattle.messages.specs.declared.message.Act.{Act}
use Rattle.messages.specs.declared.message.Act.TheVariants as act
use Rattle.messages.specs.declared.message.Call.{Call}
use Rattle.messages.specs.Holder.{Holder}
use Rattle.messages.specs.declared.message.Refusal.{Refusal}
use Rattle.messages.specs.declared.message.Refusal.TheVariants as refusal
use Rattle.messages.specs.declared.message.Reply.{Reply}
use Rattle.messages.specs.declared.message.Reply.TheVariants as reply
use Rattle.signs.specs.declared.Engine as signs
use Rattle.signs.specs.declared.Refusal as signRefusal
use Rattle.signs.specs.declared.Refusal.TheVariants.{Stale}
use Rattle.signs.specs.declared.Heard as sound
use Rattle.signs.specs.declared.Heard.TheVariants.{TellOn, Found, PassedOver}
use Rattle.signs.specs.Signs.{begin_of, listen_of, hear_of, find_of, waits_by, showing, idle}
use Rattle.engine_state.specs.declared.state.Event.{Event}
use Rattle.engine_state.specs.declared.state.Event.TheVariants as event
use Rattle.engine_state.specs.declared.state.Known.TheVariants as known
use Rattle.engine_state.specs.declared.state.State.{State}
use Rattle.engine_state.specs.declared.state.Wait.{Wait}
use Rattle.engine_state.specs.Places.{same_section}
use Rattle.engine_state.specs.State.{heard, knowing, next_number}
use Rattle.engine_state.specs.Calls.{open_of, wait_of, call_of}
use Rattle.engine_state.specs.Inputs.{
  is_engine,
  begun_with,
  begin_at,
  waits_for,
  refused_by,
  taken_by,
  ended_by,
  answer_to,
  that_call,
  awaited,
  answered,
  answer_at,
  passed_to,
  is_later,
  change_at,
  gave_up_by,
  listened,
  heard_waiting,
  sign_at,
}
use Rattle.home_laws.specs.Again.{Ordered, OrderedKept, Once, SameAgain}

pub ordered_kept : OrderedKept
ordered_kept e x event.PassedOver y b o = subst Ordered (sym b) o
ordered_kept e x (event.Refused r) y b o = subst Ordered (sym b) o
ordered_kept e x (event.RefusedBy r) y (inl b) o = subst Ordered (sym b) o
ordered_kept e x (event.RefusedBy r) y (inr b) o = subst Ordered (sym b) o
ordered_kept e x (event.Had f s) y b o = subst Ordered (sym b) o
ordered_kept e x event.Closed y b o = subst Ordered (sym b) o
ordered_kept e x (event.Called c) y b o = subst Ordered (sym b.1) o
ordered_kept e x (event.Found c) y b o = subst Ordered (sym b.1) o
ordered_kept e x (event.Began start) y b o = subst Ordered (sym b.1) (omega arith)
ordered_kept e x (event.Heard f s) y b o = subst Ordered (sym b.2) (omega (arith, b.1))
ordered_kept e x (event.Noted telling) y b o = subst Ordered (sym b) o

-- nothing changed, or what then stands turns it away
abbrev Settled : (State → Type 0) → State → State × Event → Type 0
Settled P x p = (p.0 ≡ x) ⊎ P p.0

either : (P : State → Type 0) (x : State) (t : Bool) (p q : State × Event) → Settled P x p → Settled P x q → Settled P x (cond t p q)
either P x true p q a b = a
either P x false p q a b = b

-- no call of the engine is open
abbrev Shut : Engine → State → Type 0
Shut e x = open_of x e ≡ None

begun_shut : (e f : Engine) (x : State) (s : Section) (change : ℕ) (whom : Engine) (r : Result signs.Engine signRefusal.Refusal) → Settled (Shut e) x (begun_with x f s change whom r)
begun_shut e f x s change whom (Err r) = inl refl
begun_shut e f x s change whom (Ok y) = inr refl

refused_shut : (e : Engine) (x y : State) (r : Refusal) → Shut e y → Settled (Shut e) x (refused_by x y r)
refused_shut e x y refusal.Malformed shut = inr shut
refused_shut e x y refusal.WrongCall shut = inr shut
refused_shut e x y refusal.Waiting shut = inr shut
refused_shut e x y refusal.Mismatch shut = inr shut
refused_shut e x y refusal.Stale shut = inr shut
refused_shut e x y refusal.Exhausted shut = inl refl

waits_shut : (e : Engine) (x : State) (c : Call) (engines change : ℕ) (h : Holder) → Settled (Shut e) x (waits_for x c engines change h)
waits_shut e x c engines change None = inl refl
waits_shut e x c engines change (Some f) =
    either (Shut e) x (eqb f.0 c.engine.0) (x, event.Refused refusal.WrongCall) (begin_at x c.engine engines c.section change f) (inl refl)
    (begun_shut e c.engine x c.section change f (begin_of x.signs c.engine.0 engines f.0))

taken_shut : (e : Engine) (x : State) (c : Call) (engines : ℕ) (r : Reply) (h : Holder) (change : ℕ) → Settled (Shut e) x (taken_by x c engines r h change)
taken_shut e x c engines reply.Done h change = inr refl
taken_shut e x c engines reply.Waits h change = waits_shut e x c engines change h
taken_shut e x c engines (reply.Refused r) h change = refused_shut e x (knowing x known.Closed) r refl

known_shut : (e : Engine) (x : State) (t : Bool) → Shut e (knowing x (cond t known.Had known.Closed))
known_shut e x true = refl
known_shut e x false = refl

ended_shut : (e : Engine) (x : State) (c : Call) (r : Reply) (h : Holder) → Settled (Shut e) x (ended_by x c r h)
ended_shut e x c reply.Done h = inr refl
ended_shut e x c reply.Waits h = inl refl
ended_shut e x c (reply.Refused r) h = refused_shut e x (knowing x (cond (is_engine h c.engine) known.Had known.Closed)) r (known_shut e x (is_engine h c.engine))

to_shut : (e : Engine) (x : State) (c : Call) (engines : ℕ) (r : Reply) (h : Holder) (change : ℕ) (a : Act) → Settled (Shut e) x (answer_to x c engines r h change a)
to_shut e x c engines r h change act.Take = taken_shut e x c engines r h change
to_shut e x c engines r h change act.Free = ended_shut e x c r h
to_shut e x c engines r h change act.GiveUp = ended_shut e x c r h

answered_shut : (e : Engine) (x : State) (engines : ℕ) (r : Reply) (h : Holder) (change : ℕ) (o : Option Call) → Settled (Shut e) x (answered x engines r h change o)
answered_shut e x engines r h change None = inl refl
answered_shut e x engines r h change (Some c) = to_shut e x c engines r h change c.act

-- once nothing changed or it is turned away, the second time changes nothing
once : (P : State → Type 0) (f : State → State × Event) (x : State) → ((y : State) → P y → (f y).0 ≡ y) → Settled P x (f x) → Once f x
once P f x away (inl same) = ap (λ (y : State). (f y).0) same
once P f x away (inr now) = away (f x).0 now

answer_again : (from : BoxNumber) (e : Engine) (engines n : ℕ) (r : Reply) (h : Holder) (change : ℕ) (x : State) → Once (λ y. answer_at y from e engines n r h change) x
unfolding answer_at
answer_again from e engines n r h change x =
    once (Shut e) (λ (y : State). answer_at y from e engines n r h change) x
    (λ y shut. ap (λ (o : Option Call). (answered y engines r h change (that_call from n o)).0) shut)
    (answered_shut e x engines r h change (awaited x from e n))

-- no later change is waited for
abbrev Past : Section → ℕ → State → Type 0
Past s change x = is_later (wait_of x) s change ≡ false

begun_past : (e : Engine) (x : State) (s : Section) (change : ℕ) (whom : Engine) (r : Result signs.Engine signRefusal.Refusal) → Settled (Past s change) x (begun_with x e s change whom r)
begun_past e x s change whom (Err r) = inl refl
begun_past e x s change whom (Ok y) = inr (and_right (same_section s s) (ltb change change) (le-ltb change change (omega arith)))

passed_past : (e : Engine) (x : State) (engines : ℕ) (s : Section) (change : ℕ) (h : Holder) → Settled (Past s change) x (passed_to x e engines s change h)
passed_past e x engines s change None = inl refl
passed_past e x engines s change (Some f) =
    either (Past s change) x (eqb f.0 e.0) (knowing x known.Had, event.Had e s) (begin_at x e engines s change f) (inr refl)
    (begun_past e x s change f (begin_of x.signs e.0 engines f.0))

change_again : (e : Engine) (engines : ℕ) (s : Section) (h : Holder) (change : ℕ) (x : State) → Once (λ y. change_at y e engines s h change) x
unfolding change_at
change_again e engines s h change x =
    once (Past s change) (λ (y : State). change_at y e engines s h change) x
    (λ y past. ap (λ (t : Bool). (cond t (passed_to y e engines s change h) (y, event.PassedOver)).0) past)
    (either (Past s change) x (is_later (wait_of x) s change) (passed_to x e engines s change h) (x, event.PassedOver) (passed_past e x engines s change h) (inl refl))

-- told again what it shows, and what isn't its own: passed over
shown_again : (g : signs.Engine) (by count : ℕ) → g.own < g.shown → (w : Bool) → waits_by g by count ≡ w → listen_of g by count g.shown ≡ cond w (Ok (g, PassedOver)) (Err Stale)
shown_again g by count below w is =
    ap (λ (t : Bool). cond t (hear_of g by count g.shown) (find_of g by count g.shown)) (le-ltb g.shown g.shown (omega arith)) ∙
    (ap (λ (t : Bool). cond t (cond (eqb g.shown g.own && eqb g.shown g.own) (Ok (idle g, Found)) (Ok (g, PassedOver))) (Err Stale)) is ∙
    ap (λ (t : Bool). cond w (cond t (Ok (idle g, Found)) (Ok (g, PassedOver))) (Err Stale)) (and_left (eqb g.shown g.own) (eqb g.shown g.own) (ne_eqb g.shown g.own (λ q. omega arith))))

-- what a sign leaves, told again, stays as it is
abbrev Deaf : Engine → ℕ → Engine → ℕ → State → Type 0
Deaf e count by sign x = (sign_at x e count by sign).0 ≡ x

heard_deaf : (e : Engine) (count : ℕ) (by : Engine) (sign : ℕ) (x : State) (o : Option Wait) → x.signs.own < x.signs.shown → x.signs.shown ≡ sign → (heard_waiting x e count by sign o).0 ≡ x
heard_deaf e count by sign x None below is = refl
heard_deaf e count by sign x (Some w) below is =
    subst (λ (v : ℕ). (heard_waiting x e count by v (Some w)).0 ≡ x) is
    (ap (λ (r : Result (signs.Engine × sound.Heard) signRefusal.Refusal). (listened x e w.section r).0) (shown_again x.signs by.0 count below (waits_by x.signs by.0 count) refl) ∙
    by-wait (waits_by x.signs by.0 count))
  where
    by-wait : (t : Bool) → (listened x e w.section (cond t (Ok (x.signs, PassedOver)) (Err Stale))).0 ≡ x
    by-wait true = refl
    by-wait false = refl

found_deaf : (e : Engine) (count : ℕ) (by : Engine) (sign : ℕ) (x : State) (s : Section) (o : Option ℕ) → Settled (Deaf e count by sign) x (gave_up_by x (call_of act.GiveUp e s o))
unfolding sign_at
found_deaf e count by sign x s None = inl refl
found_deaf e count by sign x s (Some n) = inr refl

-- which sign is told on
abbrev Tellable : signs.Engine → ℕ → Result (signs.Engine × sound.Heard) signRefusal.Refusal → Type 0
Tellable g sign (Err r) = Unit {0}
Tellable g sign (Ok (y, TellOn v)) = (v ≡ sign) × (g.shown < sign)
Tellable g sign (Ok (y, Found)) = Unit {0}
Tellable g sign (Ok (y, PassedOver)) = Unit {0}

tellable : (g : signs.Engine) (by count sign : ℕ) → Tellable g sign (listen_of g by count sign)
tellable g by count sign = by-test (ltb g.shown sign) refl
  where
    hear : (w t : Bool) → ltb g.shown sign ≡ t → Tellable g sign (cond w (cond t (Ok (showing g sign, TellOn sign)) (Ok (g, PassedOver))) (Err Stale))
    hear true true is = (refl, ltb-true g.shown sign is)
    hear true false is = tt
    hear false t is = tt

    find : (w t : Bool) → Tellable g sign (cond w (cond t (Ok (idle g, Found)) (Ok (g, PassedOver))) (Err Stale))
    find true true = tt
    find true false = tt
    find false t = tt

    by-test : (t : Bool) → ltb g.shown sign ≡ t → Tellable g sign (cond t (hear_of g by count sign) (find_of g by count sign))
    by-test true is = hear (waits_by g by count) (ltb g.shown sign) refl
    by-test false is = find (waits_by g by count) (eqb sign g.own && eqb g.shown g.own)

listened_deaf :
    (e : Engine) (count : ℕ) (by : Engine) (sign : ℕ) (x : State) (s : Section) (r : Result (signs.Engine × sound.Heard) signRefusal.Refusal) →
    Ordered x → Tellable x.signs sign r → Settled (Deaf e count by sign) x (listened x e s r)
unfolding sign_at
listened_deaf e count by sign x s (Err r) o t = inl refl
listened_deaf e count by sign x s (Ok (y, TellOn v)) o t = inr (heard_deaf e count by sign (heard x v) (wait_of (heard x v)) (omega (arith, t.0, t.1)) t.0)
listened_deaf e count by sign x s (Ok (y, Found)) o t = found_deaf e count by sign x s (next_number x.stored s.keeper)
listened_deaf e count by sign x s (Ok (y, PassedOver)) o t = inl refl

waiting_deaf :
    (e : Engine) (count : ℕ) (by : Engine) (sign : ℕ) (x : State) (w : Option Wait) → Ordered x → Settled (Deaf e count by sign) x (heard_waiting x e count by sign w)
waiting_deaf e count by sign x None o = inl refl
waiting_deaf e count by sign x (Some w) o =
    listened_deaf e count by sign x w.section (listen_of x.signs by.0 count sign) o (tellable x.signs by.0 count sign)

sign_again : (e : Engine) (count : ℕ) (by : Engine) (sign : ℕ) (x : State) → Ordered x → Once (λ y. sign_at y e count by sign) x
unfolding sign_at
sign_again e count by sign x o =
    once (Deaf e count by sign) (λ (y : State). sign_at y e count by sign) x (λ y deaf. deaf) (waiting_deaf e count by sign x (wait_of x) o)

pub same_again : SameAgain
same_again = (answer_again, change_again, sign_again)
