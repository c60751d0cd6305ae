-- At one box: a mode that has become a call was sent as one, and whoever is said to have a section is of this box and asks or waits for it.
use Rattle.std.specs.Prelude.{None, Some}
use Rattle.std.proofs.Common.{◌≡◌, ℕ, zero, suc, ◌%◌, ◌<◌, Bool, true, false, cond, eqb, ◌⊎◌, List, [], ◌∷◌, ◌++◌, get_or, Some, None, Ok, Err, Option, Result, sym, refl, ap, ◌∙◌, subst, inl, inr}
use mathlib.Core.List.Memᴰ
use mathlib.Core.List.{Memᴰ}
use Rattle.std.proofs.lemmas.Bool.{cond_both}
use Rattle.messages.specs.declared.yard.BoxNumber.{BoxNumber}
use Rattle.messages.specs.declared.yard.Engine.{Engine}
use Rattle.messages.specs.declared.yard.Section.{Section}
use Rattle.messages.specs.declared.yard.Yard.{Yard}
use Rattle.messages.specs.declared.message.Act.TheVariants as act
use Rattle.messages.specs.declared.message.Call.{Call}
use Rattle.messages.specs.Holder.{Holder}
use Rattle.messages.specs.declared.message.Message.{Message}
use Rattle.messages.specs.declared.message.Message.TheVariants as message
use Rattle.messages.specs.declared.message.Refusal.TheVariants as refusal
use Rattle.keeper.specs.declared.Verdict.{Verdict}
use Rattle.keeper.specs.declared.Verdict.TheVariants as verdict
use Rattle.keeper.specs.Calls.{call_of}
use Rattle.keeper.specs.Homes.{told_of}
use Rattle.keeper.specs.Words.{holder_of}
use Rattle.sections.specs.Table.{change_number_at, holder_at}
use Rattle.signs.specs.declared.Engine as signs
use Rattle.signs.specs.declared.Refusal as signRefusal
use Rattle.signs.specs.Signs.{begin_of}
use Rattle.engine_state.specs.declared.state.Event.{Event}
use Rattle.engine_state.specs.declared.state.Event.TheVariants as event
use Rattle.engine_state.specs.declared.state.Known.TheVariants as known
use Rattle.engine_state.specs.declared.state.Mode.{Mode}
use Rattle.engine_state.specs.declared.state.Mode.TheVariants as mode
use Rattle.engine_state.specs.declared.state.State.{State}
use Rattle.engine_state.specs.declared.state.Wait.{Wait}
use Rattle.engine_state.specs.State.{knowing, unread}
use Rattle.engine_state.specs.Calls.{wait_of}
use Rattle.engine_state.specs.Inputs.{begin_at, begun_with, change_at, is_later, passed_to}
use Rattle.home.specs.declared.home.Home.{Home}
use Rattle.home.specs.Noted.{Noted}
use Rattle.home.specs.Home.{at, is_home, is_ours}
use Rattle.home.specs.Inputs.{change_of, put_in}
use Rattle.home.specs.Queries.{engine, giving_back_at, holds_at, note_at, open_at, signs_at, wait_at}
use Rattle.home_laws.specs.Steps as homes
use Rattle.journal.specs.declared.output.Output.{Output}
use Rattle.journal.specs.declared.output.Output.TheVariants as output
use Rattle.boxes.specs.declared.signal_box.Input.{Input}
use Rattle.boxes.specs.declared.signal_box.Input.TheVariants as input
use Rattle.messages.specs.Homes.{home_of}
use Rattle.boxes.specs.Emit.{emit_of, tell_noted, tell_of, tells_of}
use Rattle.boxes.specs.Handle.{change_for, handle_of, happened, open_again, received_of, reminder_for, reminders_of, second_for, second_of, tell_again, wait_again, wait_at_box, wait_sent}
use Rattle.boxes.specs.Keeping.{called_at, change_to, for_us, refused, ruled_log}
use Rattle.boxes.specs.Log.{Log, each, none, said, sent}
use Rattle.boxes.specs.Model.{State as Box, with_keeper}
use Rattle.refinement.proofs.View.{Sized}
use Rattle.refinement.proofs.Sizing.{home_sized}
use Rattle.refinement.proofs.Seconds.{ours}
use Rattle.promises.proofs.Calling.{HadAt, MadeBy, Wants, mode_at, step_had, turned}

-- something holds of all that is said
abbrev pub All : (Output → Type 0) → List Output → Type 0
All P [] = Unit {0}
All P (o ∷ os) = P o × All P os

pub all_at : (P : Output → Type 0) (os : List Output) (o : Output) → All P os → Memᴰ o os → P o
all_at P [] o h k = elim k [ ]
all_at P (x ∷ os) o h (Memᴰ.head q) = subst (λ (p : Output). P p) (sym q) h.0
all_at P (x ∷ os) o h (Memᴰ.tail k) = all_at P os o h.1 k

all_on : (P Q : Output → Type 0) → ((o : Output) → P o → Q o) → (os : List Output) → All P os → All Q os
all_on P Q f [] h = tt
all_on P Q f (o ∷ os) h = (f o h.0, all_on P Q f os h.1)

-- an output that says of nobody that it has a section
abbrev NotHad : Output → Type 0
NotHad (output.Send to m) = Unit {0}
NotHad (output.Had e s) = ⊥
NotHad (output.GiveBack e) = Unit {0}
NotHad (output.GivingBack e) = Unit {0}
NotHad (output.Refused r) = Unit {0}

module _ (P : Output → Type 0) (other : (o : Output) → NotHad o → P o) where
  said_all : (os : List Output) (o : Output) → All P os → P o → All P (os ++ o ∷ [])
  said_all [] o h k = (k, tt)
  said_all (x ∷ os) o h k = (h.0, said_all os o h.1 k)

  sent_all : (l : Log) (to : BoxNumber) (m : Message) → All P l.outputs → All P (sent l to m).outputs
  sent_all l to m h = said_all l.outputs (output.Send to m) h (other (output.Send to m) tt)

  refused_all : (b : Box) (l : Log) → All P l.outputs → All P (refused b l).1.outputs
  refused_all b l h = said_all l.outputs (output.Refused refusal.Malformed) h (other (output.Refused refusal.Malformed) tt)

  each_all : (f : ℕ → Log → Log) → ((m : ℕ) (l : Log) → All P l.outputs → All P (f m l).outputs) → (m : ℕ) (l : Log) → All P l.outputs → All P (each f m l).outputs
  unfolding each
  each_all f k zero l h = h
  each_all f k (suc m) l h = k m (each f m l) (each_all f k m l h)

  tells_all : (h : Home) (j : Engine) (v : ℕ) (l : Log) → All P l.outputs → All P (tells_of h j v l).outputs
  tells_all h j v l a = each_all (λ x. tell_of h j v (engine x)) (λ x k i. go x (note_at h (engine x)) k i) h.yard.engines l a
    where
      go : (x : ℕ) (m : Noted) (k : Log) → All P k.outputs → All P (tell_noted h j v (engine x) m k).outputs
      go x None k i = i
      go x (Some seen) k i = cond_both (holds_at h j seen.section) _ _ (λ (q : Log). All P q.outputs) (λ _. sent_all k _ _ i) (λ _. i)

  -- what an event says of having
  abbrev SaysHad : Event → Type 0
  SaysHad event.PassedOver = Unit {0}
  SaysHad (event.Refused r) = Unit {0}
  SaysHad (event.RefusedBy r) = Unit {0}
  SaysHad (event.Had e s) = P (output.Had e s)
  SaysHad event.Closed = Unit {0}
  SaysHad (event.Called c) = Unit {0}
  SaysHad (event.Found c) = Unit {0}
  SaysHad (event.Began start) = Unit {0}
  SaysHad (event.Heard e s) = Unit {0}
  SaysHad (event.Noted telling) = Unit {0}

  emit_all : (h : Home) (v : Event) (l : Log) → All P l.outputs → SaysHad v → All P (emit_of h v l).outputs
  emit_all h event.PassedOver l a k = a
  emit_all h (event.Refused r) l a k = said_all l.outputs (output.Refused r) a (other (output.Refused r) tt)
  emit_all h (event.RefusedBy r) l a k = said_all l.outputs (output.Refused r) a (other (output.Refused r) tt)
  emit_all h (event.Had e s) l a k = said_all l.outputs (output.Had e s) a k
  emit_all h event.Closed l a k = a
  emit_all h (event.Called c) l a k = sent_all l _ _ a
  emit_all h (event.Found c) l a k = sent_all (said l (output.GiveBack c.engine)) _ _ (said_all l.outputs (output.GiveBack c.engine) a (other (output.GiveBack c.engine) tt))
  emit_all h (event.Began start) l a k = tells_all h start.engine start.own _ (sent_all l _ _ a)
  emit_all h (event.Heard e s) l a k = tells_all h e s _ a
  emit_all h (event.Noted telling) l a k = sent_all l _ _ a

  -- a call at a section's box
  ruled_all : (b : Box) (c : Call) (v : Verdict) (l : Log) → All P l.outputs → All P (ruled_log b c v l).outputs
  ruled_all b c verdict.Malformed l a = said_all l.outputs _ a (other (output.Refused refusal.Malformed) tt)
  ruled_all b c verdict.PassedOver l a = said_all l.outputs _ a (other (output.Refused refusal.WrongCall) tt)
  ruled_all b c (verdict.Again w) l a = sent_all (said l (output.Refused refusal.WrongCall)) _ _ (said_all l.outputs _ a (other (output.Refused refusal.WrongCall) tt))
  ruled_all b c (verdict.AtLimit w) l a = sent_all (said l (output.Refused refusal.Exhausted)) _ _ (said_all l.outputs _ a (other (output.Refused refusal.Exhausted) tt))
  ruled_all b c (verdict.Refused r w) l a = sent_all (said l (output.Refused r)) _ _ (said_all l.outputs _ a (other (output.Refused r) tt))
  ruled_all b c (verdict.Done w) l a = sent_all l _ _ a
  ruled_all b c (verdict.PassedOn w) l a =
      each_all (λ n. change_to b c.section w.holder w.change n)
      (λ n k i. cond_both (told_of b.home.yard n b.keeper.table c.section.place) _ _ (λ (q : Log). All P q.outputs) (λ _. sent_all k _ _ i) (λ _. i))
      b.home.yard.boxes _ (sent_all l _ _ a)

  -- a second, and the reminders of a box that comes up
  second_all : (h : Home) (l : Log) → All P l.outputs → All P (second_of h l).outputs
  second_all h l a = each_all (λ e. second_for h (engine e)) (λ e k i. tell e (signs_at h (engine e)) _ (wait e (wait_at h (engine e)) _ (again (open_at h (engine e)) k i))) h.yard.engines l a
    where
      again : (o : Option Call) (k : Log) → All P k.outputs → All P (open_again o k).outputs
      again None k i = i
      again (Some c) k i = sent_all k _ _ i

      wait : (e : ℕ) (o : Option Wait) (k : Log) → All P k.outputs → All P (wait_again (engine e) o k).outputs
      wait e None k i = i
      wait e (Some w) k i = sent_all (sent k _ _) _ _ (sent_all k _ _ i)

      tell : (e : ℕ) (o : Option signs.Engine) (k : Log) → All P k.outputs → All P (tell_again h (engine e) o k).outputs
      tell e None k i = i
      tell e (Some x) k i = tells_all h (engine e) x.shown k i

  reminders_all : (h : Home) (l : Log) → All P l.outputs → All P (reminders_of h l).outputs
  reminders_all h l a =
      each_all (λ e. reminder_for h (engine e))
      (λ e k i. cond_both (giving_back_at h (engine e)) _ _ (λ (q : Log). All P q.outputs) (λ _. said_all k.outputs _ i (other (output.GivingBack (engine e)) tt)) (λ _. i))
      h.yard.engines l a

-- that an engine has a section is said of one of this box that asks or waits for it
abbrev pub Fine : Yard → ℕ → (ℕ → Mode) → Output → Type 0
Fine y n f (output.Send to m) = Unit {0}
Fine y n f (output.Had e s) = (e.0 < y.engines) × (e.0 % y.boxes ≡ n) × Wants s (f e.0)
Fine y n f (output.GiveBack e) = Unit {0}
Fine y n f (output.GivingBack e) = Unit {0}
Fine y n f (output.Refused r) = Unit {0}

fine_other : (y : Yard) (n : ℕ) (f : ℕ → Mode) (o : Output) → NotHad o → Fine y n f o
fine_other y n f (output.Send to m) k = tt
fine_other y n f (output.Had e s) k = absurd k
fine_other y n f (output.GiveBack e) k = tt
fine_other y n f (output.GivingBack e) k = tt
fine_other y n f (output.Refused r) k = tt

-- a call as a mode was sent; and a giving up was printed too
abbrev pub From : List Output → ℕ → Mode → Type 0
From os k mode.Idle = ⊥
From os k (mode.Called a s n) =
    Memᴰ (output.Send s.keeper (message.Call (record { act = a; engine = engine k; section = s; number = n }))) os × (a ≡ act.GiveUp → Memᴰ (output.GiveBack (engine k)) os)
From os k (mode.Waiting s c) = Unit {0}

abbrev pub Arises : List Output → ℕ → Mode → Mode → Type 0
Arises os k m o = (o ≡ m) ⊎ From os k o

-- what a box makes of an input, and what it says
pub record Spoken (y : Yard) (n : ℕ) (b : Box) (p : Box × Log) : Type 0 where
  pub modes : (k : ℕ) → Arises p.1.outputs k (mode_at b.home k) (mode_at p.0.home k)
  pub had : All (Fine y n (mode_at p.0.home)) p.1.outputs

from_call : (h : Home) (l : Log) (c : Call) (k : ℕ) (m : Mode) → (c.act ≡ act.GiveUp → ⊥) → MadeBy (event.Called c) k m → From (emit_of h (event.Called c) l).outputs k m
from_call h l c k m never (q, r) =
    subst (λ (o : Mode). From (emit_of h (event.Called c) l).outputs k o) (sym r)
    (subst (λ (j : ℕ). From (emit_of h (event.Called c) l).outputs j (mode.Called c.act c.section c.number)) q
    (Memᴰ.append_right l.outputs (Memᴰ.head refl), λ g. absurd (never g)))

from_found : (h : Home) (l : Log) (c : Call) (k : ℕ) (m : Mode) → MadeBy (event.Found c) k m → From (emit_of h (event.Found c) l).outputs k m
from_found h l c k m (q, r) =
    subst (λ (o : Mode). From (emit_of h (event.Found c) l).outputs k o) (sym r)
    (subst (λ (j : ℕ). From (emit_of h (event.Found c) l).outputs j (mode.Called c.act c.section c.number)) q
    (Memᴰ.append_right (l.outputs ++ output.GiveBack c.engine ∷ []) (Memᴰ.head refl), λ g. Memᴰ.append_left _ (Memᴰ.append_right l.outputs (Memᴰ.head refl))))

from_event : (g h : Home) (v : Event) (l : Log) (k : ℕ) (m : Mode) → HadAt g v → MadeBy v k m → From (emit_of h v l).outputs k m
from_event g h event.PassedOver l k m a w = absurd w
from_event g h (event.Refused r) l k m a w = absurd w
from_event g h (event.RefusedBy r) l k m a w = absurd w
from_event g h (event.Had e s) l k m a w = absurd w
from_event g h event.Closed l k m a w = absurd w
from_event g h (event.Called c) l k m a w = from_call h l c k m a w
from_event g h (event.Found c) l k m a w = from_found h l c k m w
from_event g h (event.Began start) l k m a w = subst (λ (o : Mode). From (emit_of h (event.Began start) l).outputs k o) (sym w) tt
from_event g h (event.Heard e s) l k m a w = absurd w
from_event g h (event.Noted telling) l k m a w = absurd w

module _ (y : Yard) (n : ℕ) where
  -- what an event says of having, said with the modes after it
  had_after : (b : Box) → Sized y n b → (f : ℕ → Mode) (v : Event) → HadAt b.home v → ((k : ℕ) → (f k ≡ mode_at b.home k) ⊎ MadeBy v k (f k)) → SaysHad (Fine y n f) (fine_other y n f) v
  had_after b z f event.PassedOver a t = tt
  had_after b z f (event.Refused r) a t = tt
  had_after b z f (event.RefusedBy r) a t = tt
  had_after b z f (event.Had e s) a t =
      let o = ours y n b z e a.0 in
      (o.0, o.1, elim (t e.0) [ inl q ↦ subst (λ (m : Mode). Wants s m) (sym q) a.1 | inr q ↦ absurd q ])
  had_after b z f event.Closed a t = tt
  had_after b z f (event.Called c) a t = tt
  had_after b z f (event.Found c) a t = tt
  had_after b z f (event.Began start) a t = tt
  had_after b z f (event.Heard e s) a t = tt
  had_after b z f (event.Noted telling) a t = tt

  -- one input at the home
  home_spoken : (b : Box) → Sized y n b → (i : homes.Input) → Spoken y n b (happened b (homes.step_of b.home i) none)
  home_spoken b z i =
      let f : ℕ → Mode = mode_at (homes.step_of b.home i).0 in
      record {
        modes = λ k. elim (turned b.home i k) [ inl q ↦ inl q | inr w ↦ inr (from_event b.home (homes.step_of b.home i).0 (homes.step_of b.home i).1 none k (f k) (step_had b.home i) w) ];
        had = emit_all (Fine y n f) (fine_other y n f) (homes.step_of b.home i).0 (homes.step_of b.home i).1 none tt (had_after b z f (homes.step_of b.home i).1 (step_had b.home i) (turned b.home i));
      }

-- A CHANGE, HEARD ENGINE BY ENGINE
-- its events are of that section, and no call
abbrev OfChange : Section → Event → Type 0
OfChange s event.PassedOver = Unit {0}
OfChange s (event.Refused r) = Unit {0}
OfChange s (event.RefusedBy r) = Unit {0}
OfChange s (event.Had e t) = t ≡ s
OfChange s event.Closed = Unit {0}
OfChange s (event.Called c) = ⊥
OfChange s (event.Found c) = ⊥
OfChange s (event.Began start) = start.section ≡ s
OfChange s (event.Heard e v) = Unit {0}
OfChange s (event.Noted telling) = Unit {0}

begun_of : (x : State) (e : Engine) (s : Section) (c : ℕ) (w : Engine) (r : Result signs.Engine signRefusal.Refusal) → OfChange s (begun_with x e s c w r).1
begun_of x e s c w (Ok y) = refl
begun_of x e s c w (Err r) = tt

passed_of : (x : State) (e : Engine) (m : ℕ) (s : Section) (c : ℕ) (h : Holder) → OfChange s (passed_to x e m s c h).1
passed_of x e m s c None = tt
passed_of x e m s c (Some k) = go (eqb k.0 e.0)
  where
    go : (t : Bool) → OfChange s (cond {A = State × Event} t (knowing x known.Had, event.Had e s) (begin_at x e m s c k)).1
    go true = refl
    go false = begun_of x e s c k (begin_of x.signs e.0 m k.0)

at_of : (x : State) (e : Engine) (m : ℕ) (s : Section) (h : Holder) (c : ℕ) → OfChange s (change_at x e m s h c).1
unfolding change_at
at_of x e m s h c = cond_both (is_later (wait_of x) s c) _ _ (λ (p : State × Event). OfChange s p.1) (λ _. passed_of x e m s c h) (λ _. tt)

change_is_of : (h : Home) (e : Engine) (s : Section) (k : Holder) (c : ℕ) → OfChange s (change_of h e s k c).1
change_is_of h e s k c =
    cond_both (is_ours h e) (put_in h e (change_at (at h e) e h.yard.engines s k c)) (h, event.Refused refusal.Malformed) (λ (p : Home × Event). OfChange s p.1) (λ _. at_of (at h e) e h.yard.engines s k c) (λ _. tt)

made_of : (s : Section) (v : Event) (k : ℕ) (m : Mode) → OfChange s v → MadeBy v k m → (c : ℕ) × (m ≡ mode.Waiting s c)
made_of s event.PassedOver k m o w = absurd w
made_of s (event.Refused r) k m o w = absurd w
made_of s (event.RefusedBy r) k m o w = absurd w
made_of s (event.Had e t) k m o w = absurd w
made_of s event.Closed k m o w = absurd w
made_of s (event.Called c) k m o w = absurd o
made_of s (event.Found c) k m o w = absurd o
made_of s (event.Began start) k m o w = (start.change, w ∙ ap (λ (r : Section). mode.Waiting r start.change) o)
made_of s (event.Heard e v) k m o w = absurd w
made_of s (event.Noted telling) k m o w = absurd w

module _ (y : Yard) (n : ℕ) (s : Section) where
  -- that is had is said of that section alone
  abbrev FineOf : (ℕ → Mode) → Output → Type 0
  FineOf f (output.Send to m) = Unit {0}
  FineOf f (output.Had e t) = (t ≡ s) × Fine y n f (output.Had e t)
  FineOf f (output.GiveBack e) = Unit {0}
  FineOf f (output.GivingBack e) = Unit {0}
  FineOf f (output.Refused r) = Unit {0}

  of_other : (f : ℕ → Mode) (o : Output) → NotHad o → FineOf f o
  of_other f (output.Send to m) k = tt
  of_other f (output.Had e t) k = absurd k
  of_other f (output.GiveBack e) k = tt
  of_other f (output.GivingBack e) k = tt
  of_other f (output.Refused r) k = tt

  of_fine : (f : ℕ → Mode) (o : Output) → FineOf f o → Fine y n f o
  of_fine f (output.Send to m) k = tt
  of_fine f (output.Had e t) k = k.1
  of_fine f (output.GiveBack e) k = tt
  of_fine f (output.GivingBack e) k = tt
  of_fine f (output.Refused r) k = tt

  -- modes stay, or wait for it
  abbrev Stay : (ℕ → Mode) → (ℕ → Mode) → Type 0
  Stay f g = (k : ℕ) → (g k ≡ f k) ⊎ ((c : ℕ) × (g k ≡ mode.Waiting s c))

  of_on : (f g : ℕ → Mode) → Stay f g → (o : Output) → FineOf f o → FineOf g o
  of_on f g t (output.Send to m) k = tt
  of_on f g t (output.Had e p) k = (
    k.0,
    (
      k.1.0,
      k.1.1,
      elim (t e.0) [
        | inl q ↦ subst (λ (m : Mode). Wants p m) (sym q) k.1.2
        | inr q ↦ subst (λ (m : Mode). Wants p m) (sym q.1) (sym k.0)
      ],
    ),
  )
  of_on f g t (output.GiveBack e) k = tt
  of_on f g t (output.GivingBack e) k = tt
  of_on f g t (output.Refused r) k = tt

  had_of : (f : ℕ → Mode) (v : Event) → OfChange s v → SaysHad (Fine y n f) (fine_other y n f) v → SaysHad (FineOf f) (of_other f) v
  had_of f event.PassedOver o k = tt
  had_of f (event.Refused r) o k = tt
  had_of f (event.RefusedBy r) o k = tt
  had_of f (event.Had e t) o k = (o, k)
  had_of f event.Closed o k = tt
  had_of f (event.Called c) o k = tt
  had_of f (event.Found c) o k = tt
  had_of f (event.Began start) o k = tt
  had_of f (event.Heard e v) o k = tt
  had_of f (event.Noted telling) o k = tt

  module _ (h : Holder) (c : ℕ) (b : Box) where
    record Round (p : Box × Log) : Type 0 where
      sized : Sized y n p.0
      modes : Stay (mode_at b.home) (mode_at p.0.home)
      had : All (FineOf (mode_at p.0.home)) p.1.outputs

    one-round : (e : ℕ) (p : Box × Log) → Round p → Round (happened p.0 (change_of p.0.home (engine e) s h c) p.1)
    one-round e p r =
        record {
          sized = home_sized y n p.0 r.sized (homes.change (engine e) s h c);
          modes = λ k. elim (stay k) [
            | inl q ↦ elim (r.modes k) [ inl o ↦ inl (q ∙ o) | inr o ↦ inr (o.0, q ∙ o.1) ]
            | inr q ↦ inr q
          ];
          had =
              emit_all (FineOf g) (of_other g) (change_of p.0.home (engine e) s h c).0 v p.1
              (all_on (FineOf f) (FineOf g) (of_on f g stay) p.1.outputs r.had)
              (had_of g v of (had_after y n p.0 r.sized g v (step_had p.0.home (homes.change (engine e) s h c)) (turned p.0.home (homes.change (engine e) s h c))));
        }
      where
        f : ℕ → Mode
        f = mode_at p.0.home

        g : ℕ → Mode
        g = mode_at (change_of p.0.home (engine e) s h c).0

        v : Event
        v = (change_of p.0.home (engine e) s h c).1

        of : OfChange s v
        of = change_is_of p.0.home (engine e) s h c

        stay : Stay f g
        stay k = elim (turned p.0.home (homes.change (engine e) s h c) k) [ inl q ↦ inl q | inr w ↦ inr (made_of s v k (g k) of w) ]

    each-round : (m : ℕ) (p : Box × Log) → Round p → Round (each (λ e. change_for s h c (engine e)) m p)
    unfolding each
    each-round zero p r = r
    each-round (suc m) p r =
        let q = each (λ e. change_for s h c (engine e)) m p in
        let i = each-round m p r in
        cond_both (is_ours q.0.home (engine m)) _ _ Round (λ _. one-round m q i) (λ _. i)

    round-spoken : (p : Box × Log) → Round p → Spoken y n b p
    round-spoken p r =
        record {
          modes = λ k. elim (r.modes k) [ inl q ↦ inl q | inr q ↦ inr (subst (λ (m : Mode). From p.1.outputs k m) (sym q.1) tt) ];
          had = all_on (FineOf (mode_at p.0.home)) (Fine y n (mode_at p.0.home)) (of_fine (mode_at p.0.home)) p.1.outputs r.had;
        }

    changes-spoken : Sized y n b → Spoken y n b (each (λ e. change_for s h c (engine e)) b.home.yard.engines (b, none))
    changes-spoken z = round-spoken _ (each-round b.home.yard.engines (b, none) (record { sized = z; modes = λ k. inl refl; had = tt }))

-- EVERY INPUT
module _ (y : Yard) (n : ℕ) (b : Box) (z : Sized y n b) where
  abbrev Here : Output → Type 0
  Here = Fine y n (mode_at b.home)

  plain : (o : Output) → NotHad o → Here o
  plain = fine_other y n (mode_at b.home)

  -- a home that stays, and nothing said of having
  still_spoken : (l : Log) → All Here l.outputs → Spoken y n b (b, l)
  still_spoken l a = record { modes = λ k. inl refl; had = a }

  turned_away : Spoken y n b (refused b none)
  turned_away = still_spoken _ (refused_all Here plain b none tt)

  called_spoken : (from : BoxNumber) (c : Call) → Spoken y n b (called_at b from c none)
  called_spoken from c =
      cond_both (for_us b from c.engine c.section) _ _ (Spoken y n b)
      (λ _. record { modes = λ k. inl refl; had = ruled_all Here plain (with_keeper b (call_of b.keeper c).0) c (call_of b.keeper c).1 none tt })
      (λ _. turned_away)

  wait_sent_lem : (e : Engine) (s : Section) (count change : ℕ) (h : Holder) → Spoken y n b (wait_sent b e s count change h none)
  wait_sent_lem e s count change None = still_spoken none tt
  wait_sent_lem e s count change (Some j) =
      cond_both (eqb (home_of b.home.yard j).0 b.home.number.0) _ _ (Spoken y n b)
      (λ _. home_spoken y n b z (homes.waits e s count)) (λ _. still_spoken _ (sent_all Here plain none (home_of b.home.yard j) (message.Waits (record { engine = e; section = s; count = count; change = change })) tt))

  waits_spoken : (from : BoxNumber) (e : Engine) (s : Section) (count change : ℕ) → Spoken y n b (wait_at_box b from e s count change none)
  waits_spoken from e s count change =
      cond_both (eqb s.keeper.0 b.home.number.0) _ _ (Spoken y n b)
      (λ _. cond_both (is_home b.home.yard from e) _ _ (Spoken y n b)
      (λ _. cond_both (eqb change (change_number_at b.keeper.table s.place)) _ _ (Spoken y n b)
      (λ _. wait_sent_lem e s count change (holder_of (holder_at b.keeper.table s.place))) (λ _. still_spoken none tt))
      (λ _. turned_away))
      (λ _. cond_both (eqb from.0 s.keeper.0) _ _ (Spoken y n b) (λ _. home_spoken y n b z (homes.waits e s count)) (λ _. turned_away))

  pub received_spoken : (from : BoxNumber) (m : Message) → Spoken y n b (received_of b from m none)
  received_spoken from (message.Call c) = called_spoken from c
  received_spoken from (message.Answer e k told) = home_spoken y n b z (homes.answer from e k told.reply told.holder told.change)
  received_spoken from (message.Change news) =
      cond_both (eqb from.0 news.section.keeper.0) _ _ (Spoken y n b) (λ _. changes-spoken y n news.section news.holder news.change b z) (λ _. turned_away)
  received_spoken from (message.WhichChange e s) =
      cond_both (for_us b from e s) _ _ (Spoken y n b) (λ _. still_spoken _ (sent_all Here plain none from (message.Change (record { section = s; holder = holder_of (holder_at b.keeper.table s.place); change = change_number_at b.keeper.table s.place })) tt)) (λ _. turned_away)
  received_spoken from (message.Sign telling) = home_spoken y n b z (homes.sign from telling.to telling.count telling.by telling.sign)
  received_spoken from (message.Waits waiting) = waits_spoken from waiting.engine waiting.section waiting.count waiting.change

  pub handled_spoken : (i : Input) → Spoken y n b (handle_of b i none)
  handled_spoken (input.Take e s) = home_spoken y n b z (homes.take e s)
  handled_spoken (input.Free e s) = home_spoken y n b z (homes.free e s)
  handled_spoken (input.Received from m) = received_spoken from m
  handled_spoken input.Second = still_spoken _ (second_all Here plain b.home none tt)

  -- a box that comes up with what it had stored
  pub opened_spoken : (c : Box) → c.home.stored ≡ b.home.stored → Spoken y n b (c, reminders_of c.home none)
  opened_spoken c q =
      record {
        modes = λ k. inl (ap (λ xs. (get_or xs k unread).mode) q);
        had = reminders_all (Fine y n (mode_at c.home)) (fine_other y n (mode_at c.home)) c.home none tt;
      }

  pub cut_spoken : Spoken y n b (b, said none (output.Refused refusal.Malformed))
  cut_spoken = turned_away
