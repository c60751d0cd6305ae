-- A call at a section's box is at most one act of the model: the box does what the engine's last call asks for, or nothing.
use Rattle.std.specs.Prelude.{None, Some}
use Rattle.std.proofs.Common.{◌≡◌, ℕ, ◌+◌, ◌*◌, ◌%◌, ◌<◌, ◌≤◌, true, false, eqb, ltb, ◌⊎◌, List, [], ◌∷◌, ◌++◌, None, Ok, Err, sym, refl, ap, ◌∙◌, subst, inl, inr, arith}
use mathlib.Core.Path.{fun_ext}
use mathlib.Core.List.Memᴰ
use mathlib.Core.List.{Memᴰ}
use Rattle.std.proofs.lemmas.List.{get_or-set_same, get_or-set_other, get_or_past, set-get_or}
use Rattle.std.proofs.lemmas.Bool.{and_from, and_parts, both_ways, lt-ltb, cases_eq, cases_lt, cond_both, eq-eqb, eqb-false, eqb-true, ltb-true, or_cases}
use Rattle.std.proofs.lemmas.Bool.Decides.{nat_tests as tells}
use Rattle.messages.specs.declared.yard.BoxNumber.{BoxNumber}
use Rattle.messages.specs.declared.yard.Yard as sizes
use Rattle.messages.specs.declared.message.Act.{Act as Kind}
use Rattle.messages.specs.declared.message.Act.TheVariants as act
use Rattle.messages.specs.declared.message.Call.{Call}
use Rattle.messages.specs.Holder.{Holder}
use Rattle.messages.specs.declared.message.Message.{Message}
use Rattle.messages.specs.declared.message.Message.TheVariants as message
use Rattle.messages.specs.declared.message.Refusal.TheVariants as refusal
use Rattle.messages.specs.Range.{CallIn}
use Rattle.sections.specs.declared.Done.TheVariants as did
use Rattle.sections.specs.Table.{Holder as SectionHolder}
use Rattle.sections.specs.declared.Refusal.TheVariants as because
use Rattle.sections.specs.Table.{Table, Outcome, place_at, holder_at, change_number_at, is_in, waits, known, changeable, first_of, rest_of, pass_on, refusal_of, settle, take_by, free_by, unless}
use Rattle.sections.specs.Table as table
use Rattle.sections.proofs.Tables.{put_here, put_elsewhere, nowhere_waits}
use Rattle.engine_state.specs.declared.state.Mode.{Mode as Record}
use Rattle.engine_state.specs.declared.state.Mode.TheVariants as record_of
use Rattle.messages.specs.declared.message.Answer.{Answer}
use Rattle.keeper.specs.declared.LastCall.{LastCall}
use Rattle.keeper.specs.declared.Verdict.{Verdict}
use Rattle.keeper.specs.declared.Verdict.TheVariants as verdict
use Rattle.keeper.specs.Model.{last_of, never, State as Keeper}
use Rattle.keeper.specs.Calls.{answer_of, call_of, do_by, kept_of, numbered_of, ruled_of, tried_of, used_of}
use Rattle.keeper.specs.Words.{holder_of, let_go}
use Rattle.home.specs.Home.{at}
use Rattle.home.specs.Queries.{engine, note_at}
use Rattle.boxes.specs.Model.{with_keeper}
use Rattle.yard.specs.Yard as model
use Rattle.yard.specs.Yard.{put, by, free, Queued, asking, freeing, leaving, Run, Reach}
use Rattle.yard.proofs.Queues.{at_put, put_other}
use Rattle.yard.proofs.InTurn.{first_in, by≢free}
use Rattle.yard.proofs.Places.{same_holder, past_kept, change_rises, queued_not_freeing}
use Rattle.yard.proofs.Sound.{sound, reach_on}
use Rattle.yard.proofs.Views.{Moved, unmoved}
use Rattle.refinement.specs.Placed.{number_of, holder_by, holder_told, called_mode}
use Rattle.refinement.proofs.View.{Boxes, state_in, used_by, last_at, Sized, SectionAs, Stands, Means, Undone, Counted, EngineAs, As, SameCall, WasCalled, AnswerStands, True, ToABox, AnswerTrue, VerdictTrue, KeeperStep}
use Rattle.refinement.proofs.Standing.{Step, no_step, take_step, join_step, pass_step, leave_step, engine_on, caller-on, caller_mode}

-- the same of what came of the call, whatever it is
record StepTo (y : sizes.Yard) (bs : Boxes) (z : model.Yard) (n : ℕ) (c : Call) (q : Keeper × Verdict) : Type 0 where
  acts : List model.Act
  now : model.Yard
  run : Run y.engines z acts now
  holds : As y (put n (with_keeper (bs n) q.0) bs) now
  stays : (from : BoxNumber) (m : Message) → ToABox y m → True y bs z from m → True y (put n (with_keeper (bs n) q.0) bs) now from m
  verdict : VerdictTrue y (put n (with_keeper (bs n) q.0) bs) now n c q.1
  engines : now.engine ≡ z.engine
  moved : (s : ℕ) → Moved y.engines z s (now.section s)

module _ (bs : Boxes) (n : ℕ) (k : Keeper) where
  -- the boxes with another keeper at one of them
  abbrev boxes-with : Boxes
  boxes-with = put n (with_keeper (bs n) k) bs

  home_same : (b : ℕ) → (boxes-with b).home ≡ (bs b).home
  home_same b = at_put (λ v. v.home ≡ (bs b).home) n (with_keeper (bs n) k) bs b (λ p. ap (λ v. (bs v).home) (sym p)) (λ o. refl)

  state_same : (y : sizes.Yard) (e : ℕ) → state_in y boxes-with e ≡ state_in y bs e
  state_same y e = ap (λ h. at h (engine e)) (home_same (e % y.boxes))

  keeper_here : (boxes-with n).keeper ≡ k
  keeper_here = at_put (λ v. v.keeper ≡ k) n (with_keeper (bs n) k) bs n (λ p. refl) (λ o. absurd (o refl))

  keeper_there : (b : ℕ) → (b ≡ n → ⊥) → (boxes-with b).keeper ≡ (bs b).keeper
  keeper_there b ne = ap (λ v. v.keeper) (put_other n (with_keeper (bs n) k) bs b ne)

  last_here : (e : ℕ) → last_at boxes-with n e ≡ last_of k e
  last_here e = ap (λ v. last_of v e) keeper_here

  last_there : (b e : ℕ) → (b ≡ n → ⊥) → last_at boxes-with b e ≡ last_at bs b e
  last_there b e ne = ap (λ v. last_of v e) (keeper_there b ne)

  -- an engine whose last call at the box is as it was has all its last calls as they were
  last_same : (e : ℕ) → last_of k e ≡ last_of (bs n).keeper e → ◌≡◌ {A = ℕ → LastCall} (λ b. last_at boxes-with b e) (λ b. last_at bs b e)
  last_same e q = fun_ext (λ b. elim (cases_eq b n) [
    | inl p ↦ rw p (last_here e ∙ q)
    | inr o ↦ last_there b e o
  ])

-- the boxes with the keeper that is there
boxes_same : (bs : Boxes) (n : ℕ) → put n (with_keeper (bs n) (bs n).keeper) bs ≡ bs
boxes_same bs n = fun_ext (λ b. at_put (λ v. v ≡ bs b) n (with_keeper (bs n) (bs n).keeper) bs b (λ p. ap bs (sym p)) (λ o. refl))

nothing : {y : sizes.Yard} {bs : Boxes} {z : model.Yard} {n : ℕ} {c : Call} (v : Verdict) → As y bs z → VerdictTrue y bs z n c v → StepTo y bs z n c ((bs n).keeper, v)
nothing {y} {bs} {z} {n} {c} v ok t =
    record {
      acts = [];
      now = z;
      run = model.still;
      holds = subst (λ b. As y b z) (sym (boxes_same bs n)) ok;
      stays = λ from m i h. subst (λ b. True y b z from m) (sym (boxes_same bs n)) h;
      verdict = subst (λ b. VerdictTrue y b z n c v) (sym (boxes_same bs n)) t;
      engines = refl;
      moved = λ s. unmoved;
    }

-- the words of the sections and those of the model
is_in_lem : {e : ℕ} (q : List ℕ) → is_in e q ≡ true → Memᴰ e q
is_in_lem [] h = absurd (both_ways false refl h)
is_in_lem {e} (x ∷ q) h = elim (or_cases (eqb x e) (is_in e q) h) [ inl p ↦ Memᴰ.head (sym (eqb-true x e p)) | inr m ↦ Memᴰ.tail (is_in_lem q m) ]

in_is : {e : ℕ} (q : List ℕ) → Memᴰ e q → is_in e q ≡ true
in_is [] m = elim m [ ]
in_is {e} (x ∷ q) (Memᴰ.head p) = rw (eq-eqb x e (sym p))
in_is {e} (x ∷ q) (Memᴰ.tail m) = let h = in_is q m in grind (arith, tells)

without_same : (e : ℕ) (q : List ℕ) → model.without e q ≡ table.without e q
without_same e [] = refl
without_same e (x ∷ q) = let h = without_same e q in grind (arith, tells)

kept_out : {e x : ℕ} {q : List ℕ} → eqb x e ≡ false → (Memᴰ e q → ⊥) → Memᴰ e (x ∷ q) → ⊥
kept_out {e} {x} p n (Memᴰ.head h) = eqb-false x e p (sym h)
kept_out p n (Memᴰ.tail l) = n l

without_out : (e : ℕ) (q : List ℕ) → Memᴰ e (model.without e q) → ⊥
without_out e [] m = elim m [ ]
without_out e (x ∷ q) m =
    let n = without_out e q in
    cond_both (eqb x e) (model.without e q) (x ∷ model.without e q) (λ l. Memᴰ e l → ⊥) (λ p. n) (λ p. kept_out p n) m

first_same : (q : List ℕ) → model.first q ≡ holder_by (first_of q)
first_same [] = refl
first_same (x ∷ q) = refl

rest_same : (q : List ℕ) → model.rest q ≡ rest_of q
rest_same [] = refl
rest_same (x ∷ q) = refl

holder_told_lem : (h : SectionHolder) → holder_told (holder_of h) ≡ holder_by h
holder_told_lem None = refl
holder_told_lem (Some e) = refl

holder_mine : (h : SectionHolder) (e : ℕ) → holder_of h ≡ Some (engine e) → holder_by h ≡ by e
holder_mine None e q = absurd (let u : ◌≡◌ {A = ℕ} 0 1 = cc in omega arith)
holder_mine (Some x) e q = ap by (ap number q)
  where
    number : Holder → ℕ
    number None = 0
    number (Some v) = v.0

-- an answer that was sent stays true: last calls stay, or their numbers rise
answer_on : (l k : LastCall) (m : ℕ) (a : Answer) → (k ≡ l) ⊎ (l.number < k.number) → AnswerStands l m a → AnswerStands k m a
answer_on l k m a (inl q) h = rw q h
answer_on l k m a (inr r) (inl h) = inl (omega arith)
answer_on l k m a (inr r) (inr (inl h)) = inl (let q = h.0 in omega arith)
answer_on l k m a (inr r) (inr (inr h)) = inr (inr h)

module _ {y : sizes.Yard} {bs : Boxes} {z now : model.Yard} {i : ℕ} (n : ℕ) (k : Keeper) (ok : As y bs z) (t : Step y.engines z i now)
    (rise : (e : ℕ) → (last_of k e ≡ last_of (bs n).keeper e) ⊎ ((last_of (bs n).keeper e).number < (last_of k e).number)) where
  rise_at : (b e : ℕ) → (last_at (boxes-with bs n k) b e ≡ last_at bs b e) ⊎ ((last_at bs b e).number < (last_at (boxes-with bs n k) b e).number)
  rise_at b e = elim (cases_eq b n) [
    | inl p ↦ rw p (rw (last_here bs n k e) (rise e))
    | inr o ↦ inl (last_there bs n k b e o)
  ]

  stays_on : (from : BoxNumber) (m : Message) → True y bs z from m → True y (boxes-with bs n k) now from m
  stays_on from (message.Call d) h = subst (λ x. WasCalled x d) (sym (state_same bs n k y d.engine.0)) h
  stays_on from (message.Answer e m answer) h = answer_on (last_at bs from.0 e.0) _ m _ (rise_at from.0 e.0) h
  stays_on from (message.Change news) h =
      let d = t.moved (number_of news.section) in let up = change_rises d in let l = h.1 in
      (past_kept d l ∙ h.0, omega arith)
  stays_on from (message.WhichChange e s) h = tt
  stays_on from (message.Sign telling) h = rw t.told h
  stays_on from (message.Waits waiting) h = rw t.begun h

  -- all engines and sections being as they should, the step keeps all
  step_on : (c : Call) (v : Verdict) →
      ((p : ℕ) → p < 64 → SectionAs (place_at k.table p) (now.section (n * 64 + p))) →
      ((b p : ℕ) → (b ≡ n → ⊥) → p < 64 → now.section (b * 64 + p) ≡ z.section (b * 64 + p)) →
      ((e : ℕ) → e < y.engines → EngineAs y (λ b. last_at (boxes-with bs n k) b e) (state_in y bs e) now e) →
      VerdictTrue y (boxes-with bs n k) now n c v → StepTo y bs z n c (k, v)
  step_on c v here there each tells =
      record {
        acts = t.acts;
        now = now;
        run = t.run;
        holds =
            record {
              sections = λ b p l u. sections b p l u;
              engines = λ e l. subst (λ x. EngineAs y (λ b. last_at (boxes-with bs n k) b e) x now e) (sym (state_same bs n k y e)) (each e l);
              notes = λ b e s m l q. rw t.begun (ok.notes b e s m l (ap (λ h. note_at h (engine e)) (sym (home_same bs n k b)) ∙ q));
            };
        stays = λ from m u h. stays_on from m h;
        verdict = tells;
        engines = t.same_engines;
        moved = t.moved;
      }
    where
      sections : (b p : ℕ) → b < y.boxes → p < 64 → SectionAs (place_at (boxes-with bs n k b).keeper.table p) (now.section (b * 64 + p))
      sections b p l u = elim (cases_eq b n) [
        | inl q ↦ subst (λ b. SectionAs (place_at (boxes-with bs n k b).keeper.table p) (now.section (b * 64 + p))) (sym q)
            (subst (λ v. SectionAs (place_at v.table p) (now.section (n * 64 + p))) (sym (keeper_here bs n k)) (here p u))
        | inr o ↦ subst (λ v. SectionAs (place_at v.table p) (now.section (b * 64 + p))) (sym (keeper_there bs n k b o))
            (subst (λ x. SectionAs (place_at (bs b).keeper.table p) x) (sym (there b p o u)) (ok.sections b p l u))
      ]

module _ {y : sizes.Yard} {bs : Boxes} {z : model.Yard} (c : Call) (r : Reach y.engines z) (sized : Sized y c.section.keeper.0 (bs c.section.keeper.0)) (ok : As y bs z)
    (inside : CallIn y c) (small : (c.engine.0 < 64) × (c.section.place < 64)) (is : (state_in y bs c.engine.0).stored.mode ≡ record_of.Called c.act c.section c.number)
    (next : c.number ≡ (last_of (bs c.section.keeper.0).keeper c.engine.0).number + 1) where
  -- the call is done: its number is used up, and what the answer means is true
  done_step : {now : model.Yard} (t : Step y.engines z c.engine.0 now) (after : Table) (a : Answer) (v : Verdict) →
      used_of (last_of (bs c.section.keeper.0).keeper c.engine.0) c.number v ≡ record { number = c.number; answer = a } →
      ((p : ℕ) → p < 64 → SectionAs (place_at after p) (now.section (c.section.keeper.0 * 64 + p))) →
      ((b p : ℕ) → (b ≡ c.section.keeper.0 → ⊥) → p < 64 → now.section (b * 64 + p) ≡ z.section (b * 64 + p)) →
      Means now c.engine.0 c.act (number_of c.section) a →
      ((bs' : Boxes) → AnswerTrue y bs' now c.section.keeper.0 c a → VerdictTrue y bs' now c.section.keeper.0 c v) →
      StepTo y bs z c.section.keeper.0 c (kept_of (bs c.section.keeper.0).keeper c after v)
  done_step {now} t after a v used here there means tells =
      step_on n k ok t rise c v here there each (tells (boxes-with bs n k) (inr (inl (ap (λ (l : LastCall). l.number) (sym mine), ap (λ (l : LastCall). l.answer) mine))))
    where
      n : ℕ
      n = c.section.keeper.0

      i : ℕ
      i = c.engine.0

      k : Keeper
      k = (kept_of (bs n).keeper c after v).0

      new : last_of k i ≡ record { number = c.number; answer = a }
      new = let l = sized.calls in get_or-set_same (bs n).keeper.calls i _ never (omega arith) ∙ used

      mine : last_at (boxes-with bs n k) n i ≡ record { number = c.number; answer = a }
      mine = last_here bs n k i ∙ new

      others : (e : ℕ) → (e ≡ i → ⊥) → last_of k e ≡ last_of (bs n).keeper e
      others e ne = get_or-set_other (bs n).keeper.calls i e _ never ne

      rise : (e : ℕ) → (last_of k e ≡ last_of (bs n).keeper e) ⊎ ((last_of (bs n).keeper e).number < (last_of k e).number)
      rise e = elim (cases_eq e i) [
        | inl q ↦ inr (rw q (let m = ap (λ (l : LastCall). l.number) new in omega arith))
        | inr o ↦ inl (others e o)
      ]

      caller : EngineAs y (λ b. last_at (boxes-with bs n k) b i) (state_in y bs i) now i
      caller = caller-on r t (λ b. last_at (boxes-with bs n k) b i) (ok.engines i inside.0) c.act c.section c.number is next a mine (λ b o. last_there bs n k b i o) means

      each : (e : ℕ) → e < y.engines → EngineAs y (λ b. last_at (boxes-with bs n k) b e) (state_in y bs e) now e
      each e l = elim (cases_eq e i) [
        | inl q ↦ subst (λ e. EngineAs y (λ b. last_at (boxes-with bs n k) b e) (state_in y bs e) now e) (sym q) caller
        | inr o ↦ subst (λ f. EngineAs y f (state_in y bs e) now e) (sym (last_same bs n k e (others e o))) (engine_on r t o (ok.engines e l))
      ]

  -- the section of the call, in its box
  abbrev row : table.Section
  row = place_at (bs c.section.keeper.0).keeper.table c.section.place

  row_as : SectionAs row (z.section (number_of c.section))
  row_as = ok.sections c.section.keeper.0 c.section.place inside.1.0 small.1

  -- the call is done by another section at its place
  put_step : {now : model.Yard} (t : Step y.engines z c.engine.0 now) (s : table.Section) (x : model.Section) → now.section ≡ put (number_of c.section) x z.section → SectionAs s x →
      (a : Answer) (v : Verdict) → used_of (last_of (bs c.section.keeper.0).keeper c.engine.0) c.number v ≡ record { number = c.number; answer = a } →
      Means now c.engine.0 c.act (number_of c.section) a →
      ((bs' : Boxes) → AnswerTrue y bs' now c.section.keeper.0 c a → VerdictTrue y bs' now c.section.keeper.0 c v) →
      StepTo y bs z c.section.keeper.0 c (kept_of (bs c.section.keeper.0).keeper c (table.put (bs c.section.keeper.0).keeper.table c.section.place s) v)
  put_step {now} t s x made same a v used means tells = done_step t (table.put T p s) a v used here there means tells
    where
      n : ℕ
      n = c.section.keeper.0

      p : ℕ
      p = c.section.place

      T : Table
      T = (bs n).keeper.table

      at : (j : ℕ) → now.section j ≡ put (n * 64 + p) x z.section j
      at j = ap (λ f. f j) made

      here : (q : ℕ) → q < 64 → SectionAs (place_at (table.put T p s) q) (now.section (n * 64 + q))
      here q l = elim (cases_eq q p) [
        | inl e ↦ subst (λ q. SectionAs (place_at (table.put T p s) q) (now.section (n * 64 + q))) (sym e)
            (subst (λ u. SectionAs u (now.section (n * 64 + p))) (sym (put_here T p s (let w = sized.table in let b = small.1 in omega arith)))
            (subst (λ u. SectionAs s u) (sym (at (n * 64 + p) ∙ at_put (λ v. v ≡ x) (n * 64 + p) x z.section (n * 64 + p) (λ _. refl) (λ o. absurd (o refl)))) same))
        | inr o ↦
            subst (λ u. SectionAs u (now.section (n * 64 + q))) (sym (put_elsewhere T p s q o))
            (subst (λ u. SectionAs (place_at T q) u) (sym (at (n * 64 + q) ∙ put_other (n * 64 + p) x z.section (n * 64 + q) (λ e. o (omega arith)))) (ok.sections n q inside.1.0 l))
      ]

      there : (b q : ℕ) → (b ≡ n → ⊥) → q < 64 → now.section (b * 64 + q) ≡ z.section (b * 64 + q)
      there b q o l = at (b * 64 + q) ∙ put_other (n * 64 + p) x z.section (b * 64 + q) (λ e. let w = small.1 in o (omega arith))

  -- what an answer says of the section is as the section is
  said_holder : (s : table.Section) → holder_at (table.put (bs c.section.keeper.0).keeper.table c.section.place s) c.section.place ≡ s.has
  said_holder s = ap (λ (v : table.Section). v.has) (put_here (bs c.section.keeper.0).keeper.table c.section.place s (let w = sized.table in let b = small.1 in omega arith))

  said_change : (s : table.Section) → change_number_at (table.put (bs c.section.keeper.0).keeper.table c.section.place s) c.section.place ≡ s.change
  said_change s = ap (λ (v : table.Section). v.change) (put_here (bs c.section.keeper.0).keeper.table c.section.place s (let w = sized.table in let b = small.1 in omega arith))

  -- what the call comes to, by what comes of the section
  abbrev Came : Outcome → Type 0
  Came o = StepTo y bs z c.section.keeper.0 c (ruled_of (bs c.section.keeper.0).keeper c (settle (bs c.section.keeper.0).keeper.table c.section.place o))

  at_limit : Came (Err because.AtLimit)
  at_limit =
      subst (λ (l : List LastCall). StepTo y bs z n c (record { table = (bs n).keeper.table; calls = l }, verdict.AtLimit a))
      (sym (set-get_or (bs n).keeper.calls c.engine.0 never)) (nothing (verdict.AtLimit a) ok (inr (inr refl)))
    where
      n : ℕ
      n = c.section.keeper.0

      a : Answer
      a = answer_of (bs n).keeper.table c.section.place (Err because.AtLimit)

  mode_is : model.mode z c.engine.0 ≡ called_mode c.act (number_of c.section)
  mode_is = caller_mode (ok.engines c.engine.0 inside.0) c.act c.section c.number is

  -- what the model has at the section of an act
  at_put_same : (x : model.Section) → put (number_of c.section) x z.section (number_of c.section) ≡ x
  at_put_same x = at_put (λ v. v ≡ x) (number_of c.section) x z.section (number_of c.section) (λ _. refl) (λ o. absurd (o refl))

  -- a free section is had
  takes_it : c.act ≡ act.Take → row.has ≡ None → Came (Ok (record { has = Some c.engine.0; queue = row.queue; change = row.change + 1 }, did.Had))
  takes_it k f =
      put_step (take_step i s (asks, row_as.holder ∙ ap holder_by f)) _ x refl same _ (verdict.Done _) refl (rw k (ap (λ (v : model.Section). v.holder) (at_put_same x))) (λ b h. h)
    where
      i : ℕ
      i = c.engine.0

      s : ℕ
      s = number_of c.section

      asks : model.mode z i ≡ asking s
      asks = rw k at mode_is

      x : model.Section
      x = model.handed (by i) (z.section s).queue (z.section s)

      same : SectionAs (record { has = Some i; queue = row.queue; change = row.change + 1 }) x
      same = record { holder = refl; queue = row_as.queue; change = (let q = row_as.change in omega arith) }

  -- one that another has is waited for
  joins_it : c.act ≡ act.Take → (h : ℕ) → row.has ≡ Some h → (h ≡ c.engine.0 → ⊥) → (Queued z c.engine.0 (number_of c.section) → ⊥) →
      Came (Ok (record { has = row.has; queue = row.queue ++ c.engine.0 ∷ []; change = row.change }, did.Waits h))
  joins_it k h f ne out =
      put_step (join_step i s (asks, (h, had, λ q. ne (sym q)), out)) new x refl same _ (verdict.Done _) refl (rw k waits_there) (λ b w. w)
    where
      i : ℕ
      i = c.engine.0

      s : ℕ
      s = number_of c.section

      asks : model.mode z i ≡ asking s
      asks = rw k at mode_is

      had : model.holder z s ≡ by h
      had = row_as.holder ∙ ap holder_by f

      new : table.Section
      new = record { has = row.has; queue = row.queue ++ i ∷ []; change = row.change }

      x : model.Section
      x = model.joined i (z.section s)

      same : SectionAs new x
      same = record { holder = row_as.holder; queue = ap (λ q. q ++ i ∷ []) row_as.queue; change = row_as.change }

      now : model.Yard
      now = model.after z (model.joins i s)

      told : ℕ
      told = change_number_at (table.put (bs c.section.keeper.0).keeper.table c.section.place new) c.section.place

      told_is : told ≡ (z.section s).change
      told_is = said_change new ∙ sym row_as.change

      came-is : (now.section s).came i ≡ (z.section s).change
      came-is = ap (λ (v : model.Section). v.came i) (at_put_same x) ∙ at_put (λ v. v ≡ (z.section s).change) i (z.section s).change (z.section s).came i (λ _. refl) (λ o. absurd (o refl))

      change-is : (now.section s).change ≡ (z.section s).change
      change-is = ap (λ (v : model.Section). v.change) (at_put_same x)

      waits_there : Stands now i s (holder_of (holder_at (table.put (bs c.section.keeper.0).keeper.table c.section.place new) c.section.place)) told
      waits_there =
          record {
            whom = h;
            named = ap holder_of (said_holder new ∙ f);
            other = λ q. ne (sym q);
            place = inl (subst (λ (v : model.Section). Memᴰ i v.queue) (sym (at_put_same x)) (Memᴰ.append_right (z.section s).queue (Memᴰ.head refl)));
            since = (let a = told_is in let b = came-is in omega arith);
            until = (let a = told_is in let b = change-is in omega arith);
            past = ap (λ (v : model.Section). v.past told) (at_put_same x) ∙ ap (z.section s).past told_is ∙ ((sound r).places.kept s).now ∙ had;
          }

  -- what is let go passes to the first of the queue
  passes_it : c.act ≡ act.Free → row.has ≡ Some c.engine.0 → Came (Ok (pass_on row, did.LetGo (first_of row.queue)))
  passes_it k f = put_step step (pass_on row) x refl same a (let_go a (first_of row.queue)) (used (first_of row.queue)) (rw k gone) (λ b h. tells b h (first_of row.queue))
    where
      n : ℕ
      n = c.section.keeper.0

      i : ℕ
      i = c.engine.0

      s : ℕ
      s = number_of c.section

      frees : model.mode z i ≡ freeing s
      frees = rw k at mode_is

      had : model.holder z s ≡ by i
      had = row_as.holder ∙ ap holder_by f

      step : Step y.engines z i (model.after z (model.passes i s))
      step = pass_step i s (frees, had)

      a : Answer
      a = answer_of (table.put (bs n).keeper.table c.section.place (pass_on row)) c.section.place (Ok (did.LetGo (first_of row.queue)))

      x : model.Section
      x = model.handed (model.first (z.section s).queue) (model.rest (z.section s).queue) (z.section s)

      same : SectionAs (pass_on row) x
      same =
          record {
            holder = ap model.first row_as.queue ∙ first_same row.queue;
            queue = ap model.rest row_as.queue ∙ rest_same row.queue;
            change = (let q = row_as.change in omega arith);
          }

      now : model.Yard
      now = model.after z (model.passes i s)

      used : (h : SectionHolder) → used_of (last_of (bs n).keeper i) c.number (let_go a h) ≡ record { number = c.number; answer = a }
      used None = refl
      used (Some j) = refl

      gone : model.holder now s ≡ by i → ⊥
      gone h = ((sound r).places.kept s).apart i had (first_in (z.section s).queue i (ap (λ (v : model.Section). v.holder) (sym (at_put_same x)) ∙ h))

      change-is : a.change ≡ (now.section s).change
      change-is = said_change (pass_on row) ∙ sym same.change ∙ ap (λ (v : model.Section). v.change) (sym (at_put_same x))

      holder-is : model.holder now s ≡ holder_told a.holder
      holder-is = ap (λ (v : model.Section). v.holder) (at_put_same x) ∙ same.holder ∙ sym (ap holder_by (said_holder (pass_on row))) ∙ sym (holder_told_lem _)

      changed : (b : Boxes) → True y b now (record { 0 = n }) (message.Change (record { section = c.section; holder = a.holder; change = a.change }))
      changed b = (ap (now.section s).past change-is ∙ ((sound (reach_on r step.run)).places.kept s).now ∙ holder-is, (let q = change-is in omega arith))

      tells : (b : Boxes) → AnswerTrue y b now n c a → (h : SectionHolder) → VerdictTrue y b now n c (let_go a h)
      tells b t None = t
      tells b t (Some j) = (t, changed b)

  -- an engine of the queue leaves it
  leaves_it : c.act ≡ act.GiveUp → Came (Ok (record { has = row.has; queue = table.without c.engine.0 row.queue; change = row.change }, did.Left))
  leaves_it k = put_step (leave_step i s goes) _ x refl same _ (verdict.Done _) refl (rw k out) (λ b h. h)
    where
      i : ℕ
      i = c.engine.0

      s : ℕ
      s = number_of c.section

      goes : model.mode z i ≡ leaving s
      goes = rw k at mode_is

      x : model.Section
      x = model.left i (z.section s)

      same : SectionAs (record { has = row.has; queue = table.without i row.queue; change = row.change }) x
      same = record { holder = row_as.holder; queue = ap (model.without i) row_as.queue ∙ without_same i row.queue; change = row_as.change }

      out : Queued (model.after z (model.leaves i s)) i s → ⊥
      out m = without_out i (z.section s).queue (subst (λ (v : model.Section). Memᴰ i v.queue) (at_put_same x) m)

  -- who is not in the queue is told who has the section
  not_there : c.act ≡ act.GiveUp → (Queued z c.engine.0 (number_of c.section) → ⊥) → Came (Err because.Mismatch)
  not_there k out =
      done_step (no_step c.engine.0) _ _ (verdict.Refused refusal.Mismatch _) refl (λ p l. ok.sections c.section.keeper.0 p inside.1.0 l) (λ b p o l. refl)
      (rw k (out, λ h. row_as.holder ∙ holder_mine row.has c.engine.0 h)) (λ b h. h)

  -- an engine in no queue of the box is found in none
  nowhere : ((q : ℕ) → q < 64 → Queued z c.engine.0 (c.section.keeper.0 * 64 + q) → ⊥) → waits c.engine.0 (bs c.section.keeper.0).keeper.table ≡ false
  nowhere h =
      nowhere_waits c.engine.0 T (λ q w. elim (cases_lt q 64) [
        | inl l ↦ h q l (subst (λ m. Memᴰ c.engine.0 m) (sym (ok.sections c.section.keeper.0 q inside.1.0 l).queue) (is_in_lem _ w))
        | inr g ↦ both_ways false refl (sym (ap (λ (v : table.Section). is_in c.engine.0 v.queue) (get_or_past T q table.idle (let e = sized.table in omega arith))) ∙ w)
      ])
    where
      T : Table
      T = (bs c.section.keeper.0).keeper.table

  not_refused : waits c.engine.0 (bs c.section.keeper.0).keeper.table ≡ false → refusal_of (bs c.section.keeper.0).keeper.table c.engine.0 c.section.place ≡ None
  not_refused h = rw (lt-ltb c.engine.0 64 small.0, lt-ltb c.section.place 64 small.1, h)

  tried : (k : Kind) → c.act ≡ k → Undone z c.engine.0 k (number_of c.section) →
      StepTo y bs z c.section.keeper.0 c (ruled_of (bs c.section.keeper.0).keeper c (do_by k (bs c.section.keeper.0).keeper.table c.engine.0 c.section.place))
  tried act.Take k u = subst (λ o. Came (unless o (take_by row.has row c.engine.0))) (sym (not_refused (nowhere out))) (cases row.has refl)
    where
      asks : model.mode z c.engine.0 ≡ asking (number_of c.section)
      asks = rw k at mode_is

      out : (q : ℕ) → q < 64 → Queued z c.engine.0 (c.section.keeper.0 * 64 + q) → ⊥
      out q l m =
          let there = (sound r).places.about c.engine.0 (c.section.keeper.0 * 64 + q) m in
          let same : number_of c.section ≡ c.section.keeper.0 * 64 + q = rw asks at there in
          u.1 (subst (Queued z c.engine.0) (sym same) m)

      cases : (h : SectionHolder) → row.has ≡ h → Came (take_by h row c.engine.0)
      cases None q = cond_both (changeable row) _ _ Came (λ _. takes_it k q) (λ _. at_limit)
      cases (Some j) q =
          cond_both (eqb j c.engine.0) _ _ Came
          (λ e. absurd (u.0 (row_as.holder ∙ ap holder_by q ∙ ap by (eqb-true j c.engine.0 e))))
          (λ e. joins_it k j q (eqb-false j c.engine.0 e) u.1)
  tried act.Free k u = subst (λ o. Came (unless o (free_by row.has row c.engine.0))) (sym (not_refused (nowhere out))) (cases row.has refl)
    where
      frees : model.mode z c.engine.0 ≡ freeing (number_of c.section)
      frees = rw k at mode_is

      out : (q : ℕ) → q < 64 → Queued z c.engine.0 (c.section.keeper.0 * 64 + q) → ⊥
      out q l m = queued_not_freeing (sound r).places m frees

      cases : (h : SectionHolder) → row.has ≡ h → Came (free_by h row c.engine.0)
      cases None q = absurd (by≢free _ c.engine.0 u (row_as.holder ∙ ap holder_by q))
      cases (Some j) q =
          cond_both (eqb j c.engine.0) _ _ Came
          (λ e. cond_both (changeable row) _ _ Came (λ _. passes_it k (q ∙ ap Some (eqb-true j c.engine.0 e))) (λ _. at_limit))
          (λ e. absurd (eqb-false j c.engine.0 e (same_holder (row_as.holder ∙ ap holder_by q) u)))
  tried act.GiveUp k u =
      cond_both (known c.engine.0 c.section.place) _ _ Came
      (λ _. cond_both (is_in c.engine.0 row.queue) _ _ Came (λ _. leaves_it k) (λ m. not_there k (λ q. both_ways _ m (in_is row.queue (subst (Memᴰ c.engine.0) row_as.queue q)))))
      (λ e. absurd (both_ways _ e (and_from _ _ (lt-ltb c.engine.0 64 small.0) (lt-ltb c.section.place 64 small.1))))

-- a call with the next number is the engine's last one, and has not come
its_call : (z : model.Yard) (c : Call) (e used : ℕ) (l : LastCall) (m : Record) → Counted z e c.section.keeper.0 l used m → c.number ≤ used → SameCall c m → c.number ≡ l.number + 1 →
    (m ≡ record_of.Called c.act c.section c.number) × Undone z e c.act (number_of c.section)
its_call z c e used l record_of.Idle h u s q = absurd (omega arith)
its_call z c e used l (record_of.Called k p n) h u s q = elim (cases_eq p.keeper.0 c.section.keeper.0) [
  | inl b ↦ (let w = h.0 b in let v = w.0 in elim w.1 [
    | inl d ↦ absurd (let f = d.0 in omega arith)
    | inr d ↦ (let f = d.0 in let g : n ≡ c.number = omega arith in let t = s b g in
        (called t.0 t.1 g, subst (λ a. Undone z e a (number_of c.section)) t.0 (subst (λ p. Undone z e k (number_of p)) t.1 d.1)))
  ])
  | inr o ↦ absurd (let f = h.1 o in omega arith)
]
  where
    called : k ≡ c.act → p ≡ c.section → n ≡ c.number → record_of.Called k p n ≡ record_of.Called c.act c.section c.number
    called a b d = cc
its_call z c e used l (record_of.Waiting p m) h u s q = absurd (omega arith)

module _ {y : sizes.Yard} {bs : Boxes} {z : model.Yard} (c : Call) (r : Reach y.engines z) (sized : Sized y c.section.keeper.0 (bs c.section.keeper.0)) (ok : As y bs z)
    (inside : CallIn y c) (was : WasCalled (state_in y bs c.engine.0) c) where
  abbrev Comes : Keeper × Verdict → Type 0
  Comes = StepTo y bs z c.section.keeper.0 c

  comes : Comes (call_of (bs c.section.keeper.0).keeper c)
  comes =
      cond_both (known e p) _ _ Comes
      (λ h. let l = and_parts (ltb e 64) (ltb p 64) h in
      cond_both (eqb c.number 0) _ _ (λ t. Comes (numbered_of t k c)) (λ _. nothing verdict.PassedOver ok tt)
      (λ _. cond_both (eqb c.number last) _ _ (λ t. Comes (numbered_of t k c)) (λ q. again (eqb-true c.number last q))
      (λ _. cond_both (eqb c.number (last + 1)) _ _ (λ t. Comes (numbered_of t k c)) (λ q. next (ltb-true e 64 l.0, ltb-true p 64 l.1) (eqb-true c.number (last + 1) q)) (λ _. nothing verdict.PassedOver ok tt))))
      (λ _. nothing verdict.Malformed ok tt)
    where
      k : Keeper
      k = (bs c.section.keeper.0).keeper

      e : ℕ
      e = c.engine.0

      p : ℕ
      p = c.section.place

      last : ℕ
      last = (last_of k e).number

      again : c.number ≡ last → Comes (k, verdict.Again (last_of k e).answer)
      again q = nothing (verdict.Again (last_of k e).answer) ok (inr (inl (q, refl)))

      next : (e < 64) × (p < 64) → c.number ≡ last + 1 → Comes (tried_of k c)
      next l q =
          let w = ok.engines e inside.0 in
          let f = its_call z c e (used_by (state_in y bs e) c.section.keeper.0) (last_of k e) (state_in y bs e).stored.mode (w.counted c.section.keeper.0 inside.1.0) was.0 was.1 q in
          tried c r sized ok inside l f.0 q c.act refl f.1

  at_its_box : KeeperStep y bs z c.section.keeper.0 c
  at_its_box =
      record {
        acts = comes.acts;
        now = comes.now;
        run = comes.run;
        holds = comes.holds;
        stays = comes.stays;
        verdict = comes.verdict;
        engines = comes.engines;
        moved = comes.moved;
      }

-- one call at a section's box is a run of the model, and keeps all that boxes and messages have in common with it
pub keeper_step : {y : sizes.Yard} {bs : Boxes} {z : model.Yard} (n : ℕ) (from : BoxNumber) → Reach y.engines z → n < y.boxes → Sized y n (bs n) → As y bs z → (c : Call) → CallIn y c →
    c.section.keeper.0 ≡ n → True y bs z from (message.Call c) → KeeperStep y bs z n c
keeper_step {y} {bs} {z} n from r l sized ok c inside q was =
    subst (λ n. KeeperStep y bs z n c) q (at_its_box c r (subst (λ n. Sized y n (bs n)) (sym q) sized) ok inside was)
