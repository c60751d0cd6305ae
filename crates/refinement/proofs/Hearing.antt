-- What an engine's home hears is a run of the model: an answer is the kept one to the open call, and means what it says; a change and a sign are of the wait.
use Rattle.std.specs.Prelude.{None, Some}
use Rattle.std.proofs.Common.{◌≡◌, ℕ, ◌<◌, ◌≤◌, Bool, true, false, cond, ◌&&◌, eqb, ltb, ◌⊎◌, get_or, Option, Result, sym, refl, ap, ◌∙◌, inl, inr, arith}
use Rattle.std.proofs.lemmas.Bool.{cond_both, and_parts, eqb-true, eqb-false, ltb-true, cases_eq}
use Rattle.messages.specs.declared.yard.BoxNumber.{BoxNumber}
use Rattle.messages.specs.declared.yard.Engine.{Engine}
use Rattle.messages.specs.declared.yard.Section.{Section}
use Rattle.messages.specs.declared.yard.Yard as sizes
use Rattle.messages.specs.declared.message.Act.{Act}
use Rattle.messages.specs.declared.message.Act.TheVariants as act
use Rattle.messages.specs.declared.message.Call.{Call}
use Rattle.messages.specs.Holder.{Holder}
use Rattle.messages.specs.declared.message.Refusal.{Refusal}
use Rattle.messages.specs.declared.message.Refusal.TheVariants as refusal
use Rattle.messages.specs.declared.message.Reply.{Reply}
use Rattle.messages.specs.declared.message.Reply.TheVariants as reply
use Rattle.messages.specs.Range.{HolderIn}
use Rattle.signs.specs.declared.Engine as signs
use Rattle.signs.specs.declared.Heard as spoken
use Rattle.signs.specs.declared.Refusal as sign_refusal
use Rattle.signs.specs.Signs.{Wait}
use Rattle.signs.specs.Signs.{is_for, waits_by, hear_of, find_of, listen_of}
use Rattle.engine_state.specs.declared.state.Event.{Event}
use Rattle.engine_state.specs.declared.state.Event.TheVariants as event
use Rattle.engine_state.specs.declared.state.Known.{Known}
use Rattle.engine_state.specs.declared.state.Known.TheVariants as known
use Rattle.engine_state.specs.declared.state.Mode.{Mode}
use Rattle.engine_state.specs.declared.state.Mode.TheVariants as mode
use Rattle.engine_state.specs.declared.state.State.{State}
use Rattle.engine_state.specs.Places.{same_section}
use Rattle.engine_state.specs.Calls.{if_pending, call_of_mode, wait_of_mode}
use Rattle.engine_state.specs.State.{knowing}
use Rattle.engine_state.specs.Inputs.{is_engine, waits_for, refused_by, answer_to, that_call, answered, answer_at, passed_to, is_later, change_at, listened, heard_waiting, sign_at}
use Rattle.messages.specs.declared.message.Answer.{Answer}
use Rattle.keeper.specs.declared.LastCall.{LastCall}
use Rattle.home.specs.Queries.{engine}
use Rattle.yard.specs.Yard as model
use Rattle.yard.specs.Yard.{by, Queued, Told, Finds, Reach}
use Rattle.yard.proofs.Sound.{sound}
use Rattle.yard.proofs.Promised.{turn_has_come}
use Rattle.refinement.specs.Placed.{number_of, holder_told, mode_by}
use Rattle.refinement.proofs.View.{Stands, Means, LastOne, Counted, EngineAs, AnswerStands, EventTrue, OwnStep}
use Rattle.refinement.proofs.Beginning.{own_still, own_known, MayBegin, own_begin}
use Rattle.refinement.proofs.Finding.{own_hears, own_finds}

abbrev Exhausted : Reply → Type 0
Exhausted r = r ≡ reply.Refused refusal.Exhausted

-- an answer to the last call is the kept one, or says that a number is at its limit
answer_means :
    (z : model.Yard) (e : ℕ) (last : LastCall) (used : ℕ) (a : Act) (s n : ℕ) (w : Answer) → LastOne z e last used a s n → AnswerStands last n w →
    ((n ≡ last.number) × Means z e a s w) ⊎ Exhausted w.reply
answer_means z e last used a s n w (p, inl q) (inl l) = absurd (let k = q.0 in omega arith)
answer_means z e last used a s n w (p, inr q) (inl l) = absurd (let k = q.0 in omega arith)
answer_means z e last used a s n w (p, inl q) (inr (inl k)) = inl (k.0, rw k.1 at q.1)
answer_means z e last used a s n w (p, inr q) (inr (inl k)) = absurd (let i = k.0 in let j = q.0 in omega arith)
answer_means z e last used a s n w (p, inl q) (inr (inr x)) = inr x
answer_means z e last used a s n w (p, inr q) (inr (inr x)) = inr x

-- an engine that a holder is
is_engine_lem : (h : Holder) (e : ℕ) → is_engine h (engine e) ≡ true → h ≡ Some (engine e)
is_engine_lem None e t = let z : ◌≡◌ {A = ℕ} 0 1 = cc in absurd (omega arith)
is_engine_lem (Some f) e t = ap (λ (n : ℕ). Some (engine n)) (eqb-true f.0 e t)

module _ {y : sizes.Yard} {last : ℕ → LastCall} {x : State} {z : model.Yard} {e : ℕ} (h : EngineAs y last x z e) (l : e < y.engines) where
  mode_is : model.mode z e ≡ mode_by x.stored.mode x.signs.wait
  mode_is = ap (λ (i : model.Engine). i.mode) h.same

  -- the open call was answered: so the numbers of all boxes are even
  all_counted : (a : Act) (s : Section) (k : ℕ) → x.stored.mode ≡ mode.Called a s k → k ≡ (last s.keeper.0).number → (b : ℕ) → b < y.boxes → get_or x.stored.used b 0 ≡ (last b).number
  all_counted a s k is even b o =
      let c : Counted z e b (last b) (get_or x.stored.used b 0) (mode.Called a s k) = rw is at (h.counted b o) in
      elim (cases_eq s.keeper.0 b) [ inl p ↦ sym (c.0 p).0 ∙ (rw p at even) | inr p ↦ c.1 p ]

  -- a take is answered that another has the section
  take_waits :
      (s : Section) (k : ℕ) (w : Holder) (c : ℕ) → x.stored.mode ≡ mode.Called act.Take s k → k ≡ (last s.keeper.0).number → Stands z e (number_of s) w c →
      OwnStep y last z e x (waits_for x (record { act = act.Take; engine = engine e; section = s; number = k }) y.engines c w)
  take_waits s k None c is even st = own_still h (event.Refused refusal.WrongCall) tt
  take_waits s k (Some f) c is even st =
      cond_both (eqb f.0 e) _ _ (OwnStep y last z e x)
      (λ t. own_still h (event.Refused refusal.WrongCall) tt)
      (λ t. own_begin h l s c f.0 may)
    where
      asks : model.mode z e ≡ model.asking (number_of s)
      asks = rw is at mode_is

      whom : f.0 ≡ st.whom
      whom = let q = st.named in cc

      may : MayBegin y last x z e s c f.0
      may =
          record {
            section = rw is at h.within;
            unheard = rw asks;
            place = st.place;
            since = st.since;
            until = st.until;
            past = rw whom st.past;
            other = rw whom st.other;
            counted = all_counted act.Take s k is even;
            about = λ t p. rw is at p;
          }

  -- a give up is refused: the engine has the section, or is out of its queue
  give_up_refused :
      (s : Section) (k : ℕ) (w : Holder) (t : Bool) (ev : Event) → EventTrue y z (λ i. knowing x (cond t known.Had known.Closed)) z ev → is_engine w (engine e) ≡ t → x.stored.mode ≡ mode.Called act.GiveUp s k → k ≡ (last s.keeper.0).number →
      (Queued z e (number_of s) → ⊥) × (w ≡ Some (engine e) → model.holder z (number_of s) ≡ by e) → OwnStep y last z e x (knowing x (cond t known.Had known.Closed), ev)
  give_up_refused s k w true ev tr at is even g = own_known h known.Had ev (rw is (even, g.1 (is_engine_lem w e at))) tr
  give_up_refused s k w false ev tr at is even g = own_known h known.Closed ev (rw is (even, g.0)) tr

  refused_by_give_up :
      (s : Section) (k : ℕ) (r : Refusal) (w : Holder) → x.stored.mode ≡ mode.Called act.GiveUp s k → k ≡ (last s.keeper.0).number →
      (Queued z e (number_of s) → ⊥) × (w ≡ Some (engine e) → model.holder z (number_of s) ≡ by e) →
      OwnStep y last z e x (refused_by x (knowing x (cond (is_engine w (engine e)) known.Had known.Closed)) r)
  refused_by_give_up s k refusal.Malformed w is even g = give_up_refused s k w (is_engine w (engine e)) (event.RefusedBy refusal.Malformed) tt refl is even g
  refused_by_give_up s k refusal.WrongCall w is even g = give_up_refused s k w (is_engine w (engine e)) (event.RefusedBy refusal.WrongCall) tt refl is even g
  refused_by_give_up s k refusal.Waiting w is even g = give_up_refused s k w (is_engine w (engine e)) (event.RefusedBy refusal.Waiting) tt refl is even g
  refused_by_give_up s k refusal.Mismatch w is even g = give_up_refused s k w (is_engine w (engine e)) (event.RefusedBy refusal.Mismatch) tt refl is even g
  refused_by_give_up s k refusal.Stale w is even g = give_up_refused s k w (is_engine w (engine e)) (event.RefusedBy refusal.Stale) tt refl is even g
  refused_by_give_up s k refusal.Exhausted w is even g = own_still h (event.Refused refusal.Exhausted) tt

  -- what is at its limit changes nothing
  exhausted_by : (a : Act) (s : Section) (k : ℕ) (r : Reply) (w : Holder) (c : ℕ) → Exhausted r →
      OwnStep y last z e x (answer_to x (record { act = a; engine = engine e; section = s; number = k }) y.engines r w c a)
  exhausted_by act.Take s k r w c q = rw q (own_still h (event.Refused refusal.Exhausted) tt)
  exhausted_by act.Free s k r w c q = rw q (own_still h (event.Refused refusal.Exhausted) tt)
  exhausted_by act.GiveUp s k r w c q = rw q (own_still h (event.Refused refusal.Exhausted) tt)

  -- the kept answer to the open call
  answered_by : (a : Act) (s : Section) (k : ℕ) (r : Reply) (w : Holder) (c : ℕ) → x.stored.mode ≡ mode.Called a s k → k ≡ (last s.keeper.0).number →
      Means z e a (number_of s) (record { reply = r; holder = w; change = c }) →
      OwnStep y last z e x (answer_to x (record { act = a; engine = engine e; section = s; number = k }) y.engines r w c a)
  answered_by act.Take s k reply.Done w c is even g = own_known h known.Had (event.Had (engine e) s) (rw is (even, g)) g
  answered_by act.Take s k reply.Waits w c is even g = take_waits s k w c is even g
  answered_by act.Take s k (reply.Refused r) w c is even g = absurd g
  answered_by act.Free s k reply.Done w c is even g = own_known h known.Closed event.Closed (rw is (even, g)) tt
  answered_by act.Free s k reply.Waits w c is even g = absurd g
  answered_by act.Free s k (reply.Refused r) w c is even g = absurd g
  answered_by act.GiveUp s k reply.Done w c is even g = own_known h known.Closed event.Closed (rw is (even, g)) tt
  answered_by act.GiveUp s k reply.Waits w c is even g = absurd g
  answered_by act.GiveUp s k (reply.Refused r) w c is even g = refused_by_give_up s k r w is even g

  -- an answer to what stands open, if anything does
  answer_open :
      (from : BoxNumber) (n : ℕ) (r : Reply) (w : Holder) (c : ℕ) (k : Known) (m : Mode) → from.0 < y.boxes → AnswerStands (last from.0) n (record { reply = r; holder = w; change = c }) → x.stored.mode ≡ m →
      OwnStep y last z e x (answered x y.engines r w c (that_call from n (if_pending k (call_of_mode m (engine e)))))
  answer_open from n r w c known.Had m o a is = own_still h (event.Refused refusal.WrongCall) tt
  answer_open from n r w c known.Closed m o a is = own_still h (event.Refused refusal.WrongCall) tt
  answer_open from n r w c known.Pending mode.Idle o a is = own_still h (event.Refused refusal.WrongCall) tt
  answer_open from n r w c known.Pending (mode.Waiting s m) o a is = own_still h (event.Refused refusal.WrongCall) tt
  answer_open from n r w c known.Pending (mode.Called b s k) o a is =
      cond_both (eqb s.keeper.0 from.0 && eqb k n) _ _ (λ (q : Option Call). OwnStep y last z e x (answered x y.engines r w c q))
      (λ t.
      let p = and_parts (eqb s.keeper.0 from.0) (eqb k n) t in
      let box : s.keeper.0 ≡ from.0 = eqb-true s.keeper.0 from.0 p.0 in
      let counted : Counted z e from.0 (last from.0) (get_or x.stored.used from.0 0) (mode.Called b s k) = rw is at (h.counted from.0 o) in
      elim (answer_means z e (last from.0) (get_or x.stored.used from.0 0) b (number_of s) k (record { reply = r; holder = w; change = c }) (counted.0 box) (rw (eqb-true k n p.1) a)) [
        | inl g ↦ answered_by b s k r w c is (rw box g.0) g.1
        | inr q ↦ exhausted_by b s k r w c q
      ])
      (λ t. own_still h (event.Refused refusal.WrongCall) tt)

-- an answer of a box is heard
pub own_answer :
    {y : sizes.Yard} {last : ℕ → LastCall} {x : State} {z : model.Yard} {e : ℕ} → EngineAs y last x z e → e < y.engines → Reach y.engines z →
    (from : BoxNumber) (n : ℕ) (r : Reply) (h : Holder) (c : ℕ) → from.0 < y.boxes → HolderIn y h → AnswerStands (last from.0) n (record { reply = r; holder = h; change = c }) →
    OwnStep y last z e x (answer_at x from (engine e) y.engines n r h c)
unfolding answer_at
own_answer {x = x} g l reach from n r h c o w a = answer_open g l from n r h c x.known x.stored.mode o a refl

-- sections are the same by box and place
same_section_lem : (s t : Section) → same_section s t ≡ true → s ≡ t
same_section_lem s t q =
    let p = and_parts (eqb s.keeper.0 t.keeper.0) (eqb s.place t.place) q in
    let box : s.keeper.0 ≡ t.keeper.0 = eqb-true s.keeper.0 t.keeper.0 p.0 in
    let place : s.place ≡ t.place = eqb-true s.place t.place p.1 in
    ap (λ (b : ℕ). record { keeper = record { 0 = b }; place = s.place }) box ∙ ap (λ (n : ℕ). record { keeper = t.keeper; place = n }) place

module _ {y : sizes.Yard} {last : ℕ → LastCall} {x : State} {z : model.Yard} {e : ℕ} (h : EngineAs y last x z e) (l : e < y.engines) (reach : Reach y.engines z) where
  -- the section that it waits for has passed, by a later change
  passed_to_lem :
      (s : Section) (j m : ℕ) (w : Holder) (c : ℕ) → x.stored.mode ≡ mode.Waiting s m → x.signs.wait ≡ Some j → m < c →
      (z.section (number_of s)).past c ≡ holder_told w → c ≤ (z.section (number_of s)).change → OwnStep y last z e x (passed_to x (engine e) y.engines s c w)
  passed_to_lem s j m None c is whom later past until = own_still h event.PassedOver tt
  passed_to_lem s j m (Some f) c is whom later past until =
      cond_both (eqb f.0 e) _ _ (OwnStep y last z e x)
      (λ t.
      let mine : model.holder z (number_of s) ≡ by e =
      turn_has_come y.engines z reach e j (number_of s) m c waits (omega arith) until (rw (← (eqb-true f.0 e t)) past) in
      own_known h known.Had (event.Had (engine e) s) (rw is mine) mine)
      (λ t. own_begin h l s c f.0 (may (λ p. eqb-false f.0 e t (sym p))))
    where
      waits : model.mode z e ≡ model.waiting j (number_of s) m
      waits = rw (is, whom) at (mode_is h l)

      may : (e ≡ f.0 → ⊥) → MayBegin y last x z e s c f.0
      may other =
          record {
            section = (rw is at h.within).0;
            unheard = rw waits (refl, later);
            place = (sound reach).places.stands e j (number_of s) m waits;
            since = (let q = h.since j (number_of s) m waits in omega arith);
            until = until;
            past = past;
            other = other;
            counted = λ b o. rw is at (h.counted b o);
            about = λ t p. rw is at p;
          }

  change_open :
      (s : Section) (w : Holder) (c : ℕ) (k : Known) (m : Mode) (v : Wait) → (z.section (number_of s)).past c ≡ holder_told w → c ≤ (z.section (number_of s)).change → x.stored.mode ≡ m → x.signs.wait ≡ v →
      OwnStep y last z e x (cond (is_later (if_pending k (wait_of_mode m v x.signs.count)) s c) (passed_to x (engine e) y.engines s c w) (x, event.PassedOver))
  change_open s w c known.Had m v past until is whom = own_still h event.PassedOver tt
  change_open s w c known.Closed m v past until is whom = own_still h event.PassedOver tt
  change_open s w c known.Pending mode.Idle v past until is whom = own_still h event.PassedOver tt
  change_open s w c known.Pending (mode.Called a t n) v past until is whom = own_still h event.PassedOver tt
  change_open s w c known.Pending (mode.Waiting t m) None past until is whom = own_still h event.PassedOver tt
  change_open s w c known.Pending (mode.Waiting t m) (Some j) past until is whom =
      cond_both (same_section t s && ltb m c) _ _ (OwnStep y last z e x)
      (λ q.
      let p = and_parts (same_section t s) (ltb m c) q in
      passed_to_lem s j m w c (rw (same_section_lem t s p.0) at is) whom (ltb-true m c p.1) past until)
      (λ q. own_still h event.PassedOver tt)

-- a change of a section is heard
pub own_change :
    {y : sizes.Yard} {last : ℕ → LastCall} {x : State} {z : model.Yard} {e : ℕ} → EngineAs y last x z e → e < y.engines → Reach y.engines z →
    (s : Section) (h : Holder) (c : ℕ) → (z.section (number_of s)).past c ≡ holder_told h → c ≤ (z.section (number_of s)).change → HolderIn y h →
    OwnStep y last z e x (change_at x (engine e) y.engines s h c)
unfolding change_at
own_change {x = x} g l reach s h c past until w = change_open g l reach s h c x.known x.stored.mode x.signs.wait past until refl refl

-- it waits for that one, by that count
waits_by_lem : (w : Wait) (j k n m : ℕ) → w ≡ Some j → (is_for w k && eqb n m) ≡ true → (j ≡ k) × (n ≡ m)
waits_by_lem w j k n m e q =
    let p = and_parts (is_for w k) (eqb n m) q in
    (eqb-true j k (rw e at p.0), eqb-true n m p.1)

module _ {y : sizes.Yard} {last : ℕ → LastCall} {x : State} {z : model.Yard} {e : ℕ} (h : EngineAs y last x z e) (l : e < y.engines) (reach : Reach y.engines z) where
  module _ (count : ℕ) (teller : Engine) (sign : ℕ) (told : Told z e count teller.0 sign) (t : Section) (m j : ℕ) (pending : x.known ≡ known.Pending) (is : x.stored.mode ≡ mode.Waiting t m) (whom : x.signs.wait ≡ Some j) where
    abbrev Turns : Result (signs.Engine × spoken.Heard) sign_refusal.Refusal → Type 0
    Turns r = OwnStep y last z e x (listened x (engine e) t r)

    -- what was told is for this wait, and by whom it waits for
    told-now : waits_by x.signs teller.0 count ≡ true → Told z e x.signs.count j sign
    told-now w = let p = waits_by_lem x.signs.wait j teller.0 x.signs.count count whom w in rw (p.0, p.1) told

    hears-it : Turns (hear_of x.signs teller.0 count sign)
    hears-it =
        cond_both (waits_by x.signs teller.0 count) _ _ Turns
        (λ w.
        cond_both (ltb x.signs.shown sign) _ _ Turns
        (λ up. own_hears h l reach t j m sign pending is whom (told-now w) (ltb-true x.signs.shown sign up))
        (λ up. own_still h event.PassedOver tt))
        (λ w. own_still h (event.Refused refusal.Stale) tt)

    finds_it : Turns (find_of x.signs teller.0 count sign)
    finds_it =
        cond_both (waits_by x.signs teller.0 count) _ _ Turns
        (λ w.
        cond_both (eqb sign x.signs.own && eqb x.signs.shown x.signs.own) _ _ Turns
        (λ mine.
        let p = and_parts (eqb sign x.signs.own) (eqb x.signs.shown x.signs.own) mine in
        own_finds h l reach t j m is whom (found (told-now w) (eqb-true sign x.signs.own p.0) (eqb-true x.signs.shown x.signs.own p.1)))
        (λ mine. own_still h event.PassedOver tt))
        (λ w. own_still h (event.Refused refusal.Stale) tt)
      where
        waits : model.mode z e ≡ model.waiting j (number_of t) m
        waits = rw (is, whom) at (mode_is h l)

        found : Told z e x.signs.count j sign → sign ≡ x.signs.own → x.signs.shown ≡ x.signs.own → Finds z e j (number_of t)
        found n own shows =
            let c : model.count z e ≡ x.signs.count = ap (λ (i : model.Engine). i.count) h.same in
            let o : model.own z e ≡ x.signs.own = ap (λ (i : model.Engine). i.own) h.same in
            let s : model.shown z e ≡ x.signs.shown = ap (λ (i : model.Engine). i.shown) h.same in
            (rw (c, o) (rw own at n), (m, waits), s ∙ (shows ∙ sym o))

    listens : Turns (listen_of x.signs teller.0 count sign)
    listens = cond_both (ltb x.signs.shown sign) _ _ Turns (λ up. hears-it) (λ up. finds_it)

  sign_open :
      (count : ℕ) (teller : Engine) (sign : ℕ) → Told z e count teller.0 sign → (k : Known) (m : Mode) (v : Wait) → x.known ≡ k → x.stored.mode ≡ m → x.signs.wait ≡ v →
      OwnStep y last z e x (heard_waiting x (engine e) count teller sign (if_pending k (wait_of_mode m v x.signs.count)))
  sign_open count teller sign told known.Had m v pending is whom = own_still h (event.Refused refusal.Stale) tt
  sign_open count teller sign told known.Closed m v pending is whom = own_still h (event.Refused refusal.Stale) tt
  sign_open count teller sign told known.Pending mode.Idle v pending is whom = own_still h (event.Refused refusal.Stale) tt
  sign_open count teller sign told known.Pending (mode.Called a t n) v pending is whom = own_still h (event.Refused refusal.Stale) tt
  sign_open count teller sign told known.Pending (mode.Waiting t m) None pending is whom = own_still h (event.Refused refusal.Stale) tt
  sign_open count teller sign told known.Pending (mode.Waiting t m) (Some j) pending is whom = listens count teller sign told t m j pending is whom

-- a sign is heard
pub own_sign :
    {y : sizes.Yard} {last : ℕ → LastCall} {x : State} {z : model.Yard} {e : ℕ} → EngineAs y last x z e → e < y.engines → Reach y.engines z →
    (count : ℕ) (teller : Engine) (sign : ℕ) → Told z e count teller.0 sign → OwnStep y last z e x (sign_at x (engine e) count teller sign)
unfolding sign_at
own_sign {x = x} g l reach count teller sign told = sign_open g l reach count teller sign told x.known x.stored.mode x.signs.wait refl refl refl
