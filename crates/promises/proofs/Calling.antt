-- A mode becomes a call only where the call is sent, and a section is said to be had only by one that asks or waits for it: input by input.
use Rattle.std.specs.Prelude.{None, Some}
use Rattle.std.proofs.Common.{◌≡◌, ℕ, zero, suc, Bool, true, false, cond, not, ◌&&◌, ◌||◌, eqb, ltb, leb, ◌⊎◌, List, [], ◌∷◌, get_or, set, is_some, Some, None, Ok, Err, Option, Result, sym, refl, ap, ◌∙◌, subst, inl, inr, arith}
use Rattle.std.proofs.lemmas.Bool.{and_parts, cond_both, eqb-true}
use Rattle.messages.specs.declared.yard.BoxNumber.{BoxNumber}
use Rattle.messages.specs.declared.yard.Engine.{Engine}
use Rattle.messages.specs.declared.yard.Section.{Section}
use Rattle.messages.specs.declared.message.Act.{Act}
use Rattle.messages.specs.declared.message.Act.TheVariants as act
use Rattle.messages.specs.declared.message.Call.{Call}
use Rattle.messages.specs.Holder.{Holder}
use Rattle.messages.specs.declared.message.Refusal.{Refusal}
use Rattle.messages.specs.declared.message.Refusal.TheVariants as refusal
use Rattle.messages.specs.declared.message.Reply.{Reply}
use Rattle.messages.specs.declared.message.Reply.TheVariants as reply
use Rattle.signs.specs.declared.Engine as signs
use Rattle.signs.specs.declared.Heard as spoken
use Rattle.signs.specs.declared.Heard.TheVariants.{TellOn, Found, PassedOver}
use Rattle.signs.specs.declared.Refusal as signRefusal
use Rattle.signs.specs.Signs as whom
use Rattle.signs.specs.Signs.{begin_of, listen_of}
use Rattle.engine_state.specs.declared.state.Event.{Event}
use Rattle.engine_state.specs.declared.state.Event.TheVariants as event
use Rattle.engine_state.specs.declared.state.Known.{Known}
use Rattle.engine_state.specs.declared.state.Known.TheVariants as known
use Rattle.engine_state.specs.declared.state.Mode.{Mode}
use Rattle.engine_state.specs.declared.state.Mode.TheVariants as mode
use Rattle.engine_state.specs.declared.state.State.{State}
use Rattle.engine_state.specs.declared.state.Stored.{Stored}
use Rattle.engine_state.specs.declared.state.Wait.{Wait}
use Rattle.engine_state.specs.Places.{same_section}
use Rattle.engine_state.specs.State.{begun, heard, knowing, made, next_number, unread}
use Rattle.engine_state.specs.Calls.{call_of, call_of_mode, giving_back, holds_of, if_pending, next_call, open_of, wait_of, wait_of_mode}
use Rattle.engine_state.specs.Inputs.{answer_at, answer_to, answered, begin_at, begun_with, change_at, gave_up_by, heard_waiting, is_later, listened, passed_to, refused_by, sign_at, that_call, waits_for}
use Rattle.home.specs.declared.home.Home.{Home}
use Rattle.home.specs.Home.{at, if_ours, is_home, is_ours, with}
use Rattle.home.specs.Inputs.{at_ours, freed, freeing, has_section, is_older, noted_for, put_in, taken, taking}
use Rattle.home.specs.Queries.{holder_of, note_at}
use Rattle.home_laws.specs.Steps as homes
use Rattle.home_laws.proofs.Steps.{stored_by_record}
use Rattle.refinement.proofs.PlacesSet.{same_section_lem}

-- the mode that a home has stored for an engine
abbrev pub mode_at : Home → ℕ → Mode
mode_at h k = (get_or h.stored k unread).mode

-- the mode that an event makes for an engine
abbrev pub MadeBy : Event → ℕ → Mode → Type 0
MadeBy event.PassedOver k m = ⊥
MadeBy (event.Refused r) k m = ⊥
MadeBy (event.RefusedBy r) k m = ⊥
MadeBy (event.Had e s) k m = ⊥
MadeBy event.Closed k m = ⊥
MadeBy (event.Called c) k m = (c.engine.0 ≡ k) × (m ≡ mode.Called c.act c.section c.number)
MadeBy (event.Found c) k m = (c.engine.0 ≡ k) × (m ≡ mode.Called c.act c.section c.number)
MadeBy (event.Began start) k m = m ≡ mode.Waiting start.section start.change
MadeBy (event.Heard e s) k m = ⊥
MadeBy (event.Noted telling) k m = ⊥

set_read : {A : Type 0} (xs : List A) (n k : ℕ) (v d : A) → (get_or (set xs n v) k d ≡ get_or xs k d) ⊎ ((n ≡ k) × (get_or (set xs n v) k d ≡ v))
set_read [] n k v d = inl refl
set_read (x ∷ xs) zero zero v d = inr (refl, refl)
set_read (x ∷ xs) zero (suc k) v d = inl refl
set_read (x ∷ xs) (suc n) zero v d = inl refl
set_read (x ∷ xs) (suc n) (suc k) v d = elim (set_read xs n k v d) [ inl q ↦ inl q | inr q ↦ inr (ap suc q.0, q.1) ]

ours_read : (h : Home) (e : Engine) (f : State → State) (k : ℕ) →
    (mode_at (if_ours h e f) k ≡ mode_at h k) ⊎ ((e.0 ≡ k) × (mode_at (if_ours h e f) k ≡ (f (at h e)).stored.mode))
ours_read h e f k =
    cond_both (is_ours h e) (with h e (f (at h e))) h (λ (g : Home). (mode_at g k ≡ mode_at h k) ⊎ ((e.0 ≡ k) × (mode_at g k ≡ (f (at h e)).stored.mode)))
    (λ _. elim (set_read h.stored e.0 k (f (at h e)).stored unread) [
      | inl q ↦ inl (ap (λ (x : Stored). x.mode) q)
      | inr q ↦ inr (q.0, ap (λ (x : Stored). x.mode) q.1)
    ])
    (λ _. inl refl)

-- whatever comes to a home, a mode is as it was or is made by the event
pub turned : (h : Home) (i : homes.Input) (k : ℕ) → (mode_at (homes.step_of h i).0 k ≡ mode_at h k) ⊎ MadeBy (homes.step_of h i).1 k (mode_at (homes.step_of h i).0 k)
turned h i k = by-event (homes.step_of h i).1 (homes.step_of h i).0.stored (ap (λ p. p.1) (stored_by_record h i))
  where
    by-event : (v : Event) (g : List Stored) → g ≡ (homes.applied h (homes.record_of v)).stored → ((get_or g k unread).mode ≡ mode_at h k) ⊎ MadeBy v k (get_or g k unread).mode
    by-event event.PassedOver g q = inl (ap (λ (xs : List Stored). (get_or xs k unread).mode) q)
    by-event (event.Refused r) g q = inl (ap (λ (xs : List Stored). (get_or xs k unread).mode) q)
    by-event (event.RefusedBy r) g q = inl (ap (λ (xs : List Stored). (get_or xs k unread).mode) q)
    by-event (event.Had e s) g q = inl (ap (λ (xs : List Stored). (get_or xs k unread).mode) q)
    by-event event.Closed g q = inl (ap (λ (xs : List Stored). (get_or xs k unread).mode) q)
    by-event (event.Called c) g q =
        let r = ap (λ (xs : List Stored). (get_or xs k unread).mode) q in
        elim (ours_read h c.engine (λ x. made x c) k) [ inl o ↦ inl (r ∙ o) | inr o ↦ inr (o.0, r ∙ o.1) ]
    by-event (event.Found c) g q =
        let r = ap (λ (xs : List Stored). (get_or xs k unread).mode) q in
        elim (ours_read h c.engine (λ x. made x c) k) [ inl o ↦ inl (r ∙ o) | inr o ↦ inr (o.0, r ∙ o.1) ]
    by-event (event.Began start) g q =
        let r = ap (λ (xs : List Stored). (get_or xs k unread).mode) q in
        elim (ours_read h start.engine (λ x. begun x start.section start.change start.holder start.count start.own) k) [ inl o ↦ inl (r ∙ o) | inr o ↦ inr (r ∙ o.1) ]
    by-event (event.Heard e s) g q =
        let r = ap (λ (xs : List Stored). (get_or xs k unread).mode) q in
        elim (ours_read h e (λ x. heard x s) k) [ inl o ↦ inl (r ∙ o) | inr o ↦ inl (r ∙ o.1 ∙ ap (λ (j : ℕ). mode_at h j) o.0) ]
    by-event (event.Noted telling) g q = inl (ap (λ (xs : List Stored). (get_or xs k unread).mode) q)

-- WHO IS SAID TO HAVE
-- a mode that asks or waits for a section
abbrev pub Wants : Section → Mode → Type 0
Wants s mode.Idle = ⊥
Wants s (mode.Called act.Take t n) = t ≡ s
Wants s (mode.Called act.Free t n) = ⊥
Wants s (mode.Called act.GiveUp t n) = ⊥
Wants s (mode.Waiting t c) = t ≡ s

-- at one engine that is had is said of it, and of what it asks or waits for; and what it hears is no line
abbrev HadBy : Engine → Mode → Event → Type 0
HadBy e m event.PassedOver = Unit {0}
HadBy e m (event.Refused r) = Unit {0}
HadBy e m (event.RefusedBy r) = Unit {0}
HadBy e m (event.Had f s) = (f ≡ e) × Wants s m
HadBy e m event.Closed = Unit {0}
HadBy e m (event.Called c) = ⊥
HadBy e m (event.Found c) = Unit {0}
HadBy e m (event.Began start) = Unit {0}
HadBy e m (event.Heard f s) = Unit {0}
HadBy e m (event.Noted telling) = Unit {0}

begun_had : (m : Mode) (x : State) (e : Engine) (s : Section) (c : ℕ) (w : Engine) (r : Result signs.Engine signRefusal.Refusal) → HadBy e m (begun_with x e s c w r).1
begun_had m x e s c w (Ok y) = tt
begun_had m x e s c w (Err r) = tt

waits_had : (m : Mode) (x : State) (e : Engine) (c : Call) (k n : ℕ) (h : Holder) → HadBy c.engine m (waits_for x c k n h).1
waits_had m x e c k n None = tt
waits_had m x e c k n (Some f) = go (eqb f.0 c.engine.0)
  where
    go : (t : Bool) → HadBy c.engine m (cond {A = State × Event} t (x, event.Refused refusal.WrongCall) (begin_at x c.engine k c.section n f)).1
    go true = tt
    go false = begun_had m x c.engine c.section n f (begin_of x.signs c.engine.0 k f.0)

refused_had : (m : Mode) (e : Engine) (x y : State) (r : Refusal) → HadBy e m (refused_by x y r).1
refused_had m e x y refusal.Malformed = tt
refused_had m e x y refusal.WrongCall = tt
refused_had m e x y refusal.Waiting = tt
refused_had m e x y refusal.Mismatch = tt
refused_had m e x y refusal.Stale = tt
refused_had m e x y refusal.Exhausted = tt

to_had : (x : State) (e : Engine) (s : Section) (n k : ℕ) (r : Reply) (h : Holder) (c : ℕ) (a : Act) →
    HadBy e (mode.Called a s n) (answer_to x (record { act = a; engine = e; section = s; number = n }) k r h c a).1
to_had x e s n k reply.Done h c act.Take = (refl, refl)
to_had x e s n k reply.Waits h c act.Take = waits_had (mode.Called act.Take s n) x e (record { act = act.Take; engine = e; section = s; number = n }) k c h
to_had x e s n k (reply.Refused r) h c act.Take = refused_had (mode.Called act.Take s n) e x (knowing x known.Closed) r
to_had x e s n k reply.Done h c act.Free = tt
to_had x e s n k reply.Waits h c act.Free = tt
to_had x e s n k (reply.Refused r) h c act.Free = refused_had (mode.Called act.Free s n) e x _ r
to_had x e s n k reply.Done h c act.GiveUp = tt
to_had x e s n k reply.Waits h c act.GiveUp = tt
to_had x e s n k (reply.Refused r) h c act.GiveUp = refused_had (mode.Called act.GiveUp s n) e x _ r

answer_had : (x : State) (from : BoxNumber) (e : Engine) (k n : ℕ) (r : Reply) (h : Holder) (c : ℕ) → HadBy e x.stored.mode (answer_at x from e k n r h c).1
unfolding answer_at
answer_had x from e k n r h c = go x.known x.stored.mode
  where
    go : (o : Known) (m : Mode) → HadBy e m (answered x k r h c (that_call from n (if_pending o (call_of_mode m e)))).1
    go known.Had m = tt
    go known.Closed m = tt
    go known.Pending mode.Idle = tt
    go known.Pending (mode.Waiting s j) = tt
    go known.Pending (mode.Called a s j) =
        cond_both (eqb s.keeper.0 from.0 && eqb j n) _ _ (λ (q : Option Call). HadBy e (mode.Called a s j) (answered x k r h c q).1)
        (λ _. to_had x e s j k r h c a) (λ _. tt)

that_section : (s t : Section) → same_section s t ≡ true → s ≡ t
that_section s t q =
    let p = and_parts (eqb s.keeper.0 t.keeper.0) (eqb s.place t.place) q in
    same_section_lem (eqb-true s.keeper.0 t.keeper.0 p.0) (eqb-true s.place t.place p.1)

passed_had : (x : State) (e : Engine) (k : ℕ) (s : Section) (c : ℕ) (h : Holder) (m : Mode) → Wants s m → HadBy e m (passed_to x e k s c h).1
passed_had x e k s c None m w = tt
passed_had x e k s c (Some f) m w = go (eqb f.0 e.0)
  where
    go : (t : Bool) → HadBy e m (cond {A = State × Event} t (knowing x known.Had, event.Had e s) (begin_at x e k s c f)).1
    go true = (refl, w)
    go false = begun_had m x e s c f (begin_of x.signs e.0 k f.0)

change_had : (x : State) (e : Engine) (k : ℕ) (s : Section) (h : Holder) (c : ℕ) → HadBy e x.stored.mode (change_at x e k s h c).1
unfolding change_at
change_had x e k s h c = go x.known x.stored.mode x.signs.wait
  where
    go : (o : Known) (m : Mode) (v : whom.Wait) →
        HadBy e m (cond {A = State × Event} (is_later (if_pending o (wait_of_mode m v x.signs.count)) s c) (passed_to x e k s c h) (x, event.PassedOver)).1
    go known.Had m v = tt
    go known.Closed m v = tt
    go known.Pending mode.Idle v = tt
    go known.Pending (mode.Called a t n) v = tt
    go known.Pending (mode.Waiting t n) None = tt
    go known.Pending (mode.Waiting t n) (Some j) =
        cond_both (same_section t s && ltb n c) _ _ (λ (p : State × Event). HadBy e (mode.Waiting t n) p.1)
        (λ q. passed_had x e k s c h (mode.Waiting t n) (that_section t s (and_parts (same_section t s) (ltb n c) q).0)) (λ _. tt)

found_had : (x : State) (e : Engine) (m : Mode) (r : Result Call Refusal) → HadBy e m (gave_up_by x r).1
found_had x e m (Ok c) = tt
found_had x e m (Err r) = tt

listened_had : (x : State) (e : Engine) (m : Mode) (s : Section) (r : Result (signs.Engine × spoken.Heard) signRefusal.Refusal) → HadBy e m (listened x e s r).1
listened_had x e m s (Err r) = tt
listened_had x e m s (Ok (y, TellOn v)) = tt
listened_had x e m s (Ok (y, Found)) = found_had x e m (next_call x act.GiveUp e s)
listened_had x e m s (Ok (y, PassedOver)) = tt

sign_had : (x : State) (e : Engine) (n : ℕ) (by : Engine) (v : ℕ) → HadBy e x.stored.mode (sign_at x e n by v).1
unfolding sign_at
sign_had x e n by v = go (wait_of x)
  where
    go : (o : Option Wait) → HadBy e x.stored.mode (heard_waiting x e n by v o).1
    go None = tt
    go (Some w) = listened_had x e x.stored.mode w.section (listen_of x.signs by.0 n v)

-- at a home that is had is said of one of ours, and of what it asks or waits for; and no line gives up
abbrev pub HadAt : Home → Event → Type 0
HadAt h event.PassedOver = Unit {0}
HadAt h (event.Refused r) = Unit {0}
HadAt h (event.RefusedBy r) = Unit {0}
HadAt h (event.Had f s) = (is_ours h f ≡ true) × Wants s (mode_at h f.0)
HadAt h event.Closed = Unit {0}
HadAt h (event.Called c) = c.act ≡ act.GiveUp → ⊥
HadAt h (event.Found c) = Unit {0}
HadAt h (event.Began start) = Unit {0}
HadAt h (event.Heard f s) = Unit {0}
HadAt h (event.Noted telling) = Unit {0}

by_had : (h : Home) (e : Engine) (v : Event) → is_ours h e ≡ true → HadBy e (mode_at h e.0) v → HadAt h v
by_had h e event.PassedOver o k = tt
by_had h e (event.Refused r) o k = tt
by_had h e (event.RefusedBy r) o k = tt
by_had h e (event.Had f s) o k = subst (λ (g : Engine). (is_ours h g ≡ true) × Wants s (mode_at h g.0)) (sym k.0) (o, k.1)
by_had h e event.Closed o k = tt
by_had h e (event.Called c) o k = absurd k
by_had h e (event.Found c) o k = tt
by_had h e (event.Began start) o k = tt
by_had h e (event.Heard f s) o k = tt
by_had h e (event.Noted telling) o k = tt

ours_had : (h : Home) (e : Engine) (f : State → State × Event) → HadBy e (mode_at h e.0) (f (at h e)).1 → HadAt h (at_ours h e f).1
ours_had h e f k = cond_both (is_ours h e) (put_in h e (f (at h e))) (h, event.Refused refusal.Malformed) (λ (p : Home × Event). HadAt h p.1) (λ o. by_had h e (f (at h e)).1 o k) (λ _. tt)

-- no line gives up
abbrev NoGiveUp : Result Call Refusal → Type 0
NoGiveUp (Ok c) = c.act ≡ act.GiveUp → ⊥
NoGiveUp (Err r) = Unit {0}

take≢giveUp : act.Take ≡ act.GiveUp → ⊥
take≢giveUp q = let z : ◌≡◌ {A = ℕ} 0 1 = cc in omega arith

free≢giveUp : act.Free ≡ act.GiveUp → ⊥
free≢giveUp q = let z : ◌≡◌ {A = ℕ} 0 1 = cc in omega arith

next_act : (a : Act) (e : Engine) (s : Section) (o : Option ℕ) → (a ≡ act.GiveUp → ⊥) → NoGiveUp (call_of a e s o)
next_act a e s None k = tt
next_act a e s (Some n) k = k

pub step_had : (h : Home) (i : homes.Input) → HadAt h (homes.step_of h i).1
step_had h (homes.take e s) = go (taking h e s) taken-act
  where
    go : (r : Result Call Refusal) → NoGiveUp r → HadAt h (taken h r).1
    go (Ok c) k = k
    go (Err r) k = tt

    taken-act : NoGiveUp (taking h e s)
    taken-act =
        cond_both (is_ours h e) _ _ NoGiveUp
        (λ _. cond_both (has_section h s) _ _ NoGiveUp
        (λ _. cond_both (is_some (open_of (at h e) e) || giving_back (at h e)) _ _ NoGiveUp (λ _. tt)
        (λ _. cond_both (is_some (wait_of (at h e))) _ _ NoGiveUp (λ _. tt)
        (λ _. cond_both (holds_of (at h e) s) _ _ NoGiveUp (λ _. tt) (λ _. next_act act.Take e s (next_number (at h e).stored s.keeper) take≢giveUp))))
        (λ _. tt)) (λ _. tt)
step_had h (homes.free e s) = go (freeing h e s) freed-act
  where
    go : (r : Result Call Refusal) → NoGiveUp r → HadAt h (freed h s r).1
    go (Ok c) k = k
    go (Err r) k = tt

    freed-act : NoGiveUp (freeing h e s)
    freed-act =
        cond_both (is_ours h e) _ _ NoGiveUp
        (λ _. cond_both (has_section h s) _ _ NoGiveUp
        (λ _. cond_both (is_some (open_of (at h e) e)) _ _ NoGiveUp (λ _. tt)
        (λ _. cond_both (is_some (wait_of (at h e))) _ _ NoGiveUp (λ _. tt)
        (λ _. cond_both (holds_of (at h e) s) _ _ NoGiveUp (λ _. next_act act.Free e s (next_number (at h e).stored s.keeper) free≢giveUp) (λ _. tt))))
        (λ _. tt)) (λ _. tt)
step_had h (homes.answer from e n r g c) = ours_had h e (λ x. answer_at x from e h.yard.engines n r g c) (answer_had (at h e) from e h.yard.engines n r g c)
step_had h (homes.change e s g c) = ours_had h e (λ x. change_at x e h.yard.engines s g c) (change_had (at h e) e h.yard.engines s g c)
step_had h (homes.sign from e n by v) =
    cond_both (is_home h.yard from by) _ _ (λ (p : Home × Event). HadAt h p.1) (λ _. ours_had h e (λ x. sign_at x e n by v) (sign_had (at h e) e n by v)) (λ _. tt)
step_had h (homes.waits e s n) =
    cond_both (leb h.yard.engines e.0 || not (has_section h s)) _ _ (λ (p : Home × Event). HadAt h p.1) (λ _. tt) (λ _. go (holder_of h s))
  where
    go : (o : Option Engine) → HadAt h (noted_for h e s n o).1
    go None = tt
    go (Some f) =
        cond_both (leb 64 e.0 || is_older n (note_at h e)) _ _ (λ (p : Home × Event). HadAt h p.1) (λ _. tt)
        (λ _. cond_both (is_ours h f) _ _ (λ (p : Home × Event). HadAt h p.1) (λ _. tt) (λ _. tt))
