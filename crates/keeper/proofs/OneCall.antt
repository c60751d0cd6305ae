-- What every call keeps to, by cases of its number and of what the sections answer.
use Rattle.std.proofs.Common.{◌≡◌, ℕ, ◌+◌, ◌<◌, true, false, cond, eqb, ltb, ◌⊎◌, List, length, get_or, set, Some, None, Ok, Err, Option, Result, sym, refl, ap, ◌∙◌, inl, inr, arith}
use Rattle.std.proofs.lemmas.List.{get_or-set_same, get_or-set_other, length-map, set-get_or}
use Rattle.std.proofs.lemmas.Bool.{and_parts, cases_Bool, cases_eq, cond_both, eq-eqb, eqb-false, eqb-true, ltb-true, ne_eqb}
use Rattle.messages.specs.declared.message.Act.{Act}
use Rattle.messages.specs.declared.message.Act.TheVariants as act
use Rattle.messages.specs.declared.message.Call.{Call}
use Rattle.sections.specs.declared.Done.{Done}
use Rattle.sections.specs.declared.Done.TheVariants as did
use Rattle.sections.specs.declared.Refusal.{Refusal}
use Rattle.sections.specs.declared.Refusal.TheVariants as refused
use Rattle.sections.specs.Table.{Holder, Outcome, Section, Table, changeable, free_by, free_outcome, give_up_outcome, holder_at, idle, is_in, known, refusal_of, place_at, settle, take_by, take_outcome, unless}
use Rattle.sections.specs.Layout.{section_of}
use Rattle.messages.specs.declared.message.Answer.{Answer}
use Rattle.keeper.specs.declared.LastCall.{LastCall}
use Rattle.keeper.specs.declared.Verdict.{Verdict}
use Rattle.keeper.specs.declared.Verdict.TheVariants as verdict
use Rattle.keeper.specs.declared.calls.Turn.{Turn}
use Rattle.keeper.specs.declared.calls.Turn.TheVariants as turn
use Rattle.keeper.specs.declared.Keeper.{Keeper}
use Rattle.keeper.specs.Model.{State, last_of, model_of, never}
use Rattle.keeper.specs.Calls.{answer_of, ask_of, call_of, do_by, kept_of, numbered_of, ruled_of, turn_of, used_of}
use Rattle.keeper.specs.Words.{holder_of, verdict_of}
use Rattle.keeper.specs.Promise.{AnsweredAgain, Followed, IsNext, OneSection, Risen, UsedUp}

-- what a turn says of the numbers
abbrev pub Means : ℕ → ℕ → Turn → Type 0
Means last n turn.Last = n ≡ last
Means last n turn.Next = n ≡ last + 1
Means last n turn.Other = n ≡ last + 1 → ⊥

turn_means : (last n : ℕ) → Means last n (turn_of last n)
turn_means last n =
    cond_both (eqb n 0) _ _ (Means last n) (λ q k. let z = eqb-true n 0 q in omega arith)
    (λ _. cond_both (eqb n last) _ _ (Means last n) (eqb-true n last)
    (λ _. cond_both (eqb n (last + 1)) _ _ (Means last n) (eqb-true n (last + 1)) (eqb-false n (last + 1))))

same_turn : (n : ℕ) → (n ≡ 0 → ⊥) → turn_of n n ≡ turn.Last
same_turn n h = rw (ne_eqb n 0 h, eq-eqb n n refl) refl

-- the sections answer the same
abbrev Answered : Result Done Refusal → Result Done Refusal → Type 0
Answered r s = r ≡ s

-- refused, the sections are as they were
settle_err : (t : Table) (p : ℕ) (o : Outcome) (after : Table) (r : Refusal) → settle t p o ≡ (after, Err r) → after ≡ t
settle_err t p (Ok (s, done)) after r q = let e : Answered (Ok done) (Err r) = ap (λ x. x.1) q in cc
settle_err t p (Err x) after r q = sym (ap (λ x. x.0) q)

do_err : (a : Act) (t : Table) (e p : ℕ) (after : Table) (r : Refusal) → do_by a t e p ≡ (after, Err r) → after ≡ t
do_err act.Take t e p = settle_err t p (take_outcome t e p)
do_err act.Free t e p = settle_err t p (free_outcome t e p)
do_err act.GiveUp t e p = settle_err t p (give_up_outcome t e p)

-- a section that was let go is had by the one that is named
abbrev LetGoTo : Outcome → Type 0
LetGoTo (Ok (s, did.Had)) = Unit {0}
LetGoTo (Ok (s, did.Waits x)) = Unit {0}
LetGoTo (Ok (s, did.LetGo to)) = s.has ≡ to
LetGoTo (Ok (s, did.Left)) = Unit {0}
LetGoTo (Err r) = Unit {0}

take_names : (h : Holder) (s : Section) (e : ℕ) → LetGoTo (take_by h s e)
take_names None s e = cond_both (changeable s) _ _ LetGoTo (λ _. tt) (λ _. tt)
take_names (Some x) s e = cond_both (eqb x e) _ _ LetGoTo (λ _. tt) (λ _. tt)

free_names : (h : Holder) (s : Section) (e : ℕ) → LetGoTo (free_by h s e)
free_names None s e = tt
free_names (Some x) s e = cond_both (eqb x e) _ _ LetGoTo (λ _. cond_both (changeable s) _ _ LetGoTo (λ _. refl) (λ _. tt)) (λ _. tt)

unless_names : (r : Option Refusal) (o : Outcome) → LetGoTo o → LetGoTo (unless r o)
unless_names (Some r) o h = tt
unless_names None o h = h

settle_names : (t : Table) (p : ℕ) (o : Outcome) → LetGoTo o → (after : Table) (to : Holder) → p < length t → settle t p o ≡ (after, Ok (did.LetGo to)) → holder_at after p ≡ to
settle_names t p (Ok (s, did.Had)) names after to h q = let e : Answered (Ok did.Had) (Ok (did.LetGo to)) = ap (λ x. x.1) q in cc
settle_names t p (Ok (s, did.Waits x)) names after to h q = let e : Answered (Ok (did.Waits x)) (Ok (did.LetGo to)) = ap (λ x. x.1) q in cc
settle_names t p (Ok (s, did.LetGo x)) names after to h q =
    let e : Answered (Ok (did.LetGo x)) (Ok (did.LetGo to)) = ap (λ x. x.1) q in
    let same : x ≡ to = cc in
    sym (ap (λ x. holder_at x.0 p) q) ∙ ap (λ x. x.has) (get_or-set_same t p s idle h) ∙ names ∙ same
settle_names t p (Ok (s, did.Left)) names after to h q = let e : Answered (Ok did.Left) (Ok (did.LetGo to)) = ap (λ x. x.1) q in cc
settle_names t p (Err x) names after to h q = let e : Answered (Err x) (Ok (did.LetGo to)) = ap (λ x. x.1) q in cc

do_names : (a : Act) (t : Table) (e p : ℕ) (after : Table) (to : Holder) → p < length t → do_by a t e p ≡ (after, Ok (did.LetGo to)) → holder_at after p ≡ to
do_names act.Take t e p = settle_names t p (take_outcome t e p) (unless_names (refusal_of t e p) _ (take_names (place_at t p).has (place_at t p) e))
do_names act.Free t e p = settle_names t p (free_outcome t e p) (unless_names (refusal_of t e p) _ (free_names (place_at t p).has (place_at t p) e))
do_names act.GiveUp t e p =
    settle_names t p (give_up_outcome t e p)
    (cond_both (known e p) _ _ LetGoTo (λ _. cond_both (is_in e (place_at t p).queue) _ _ LetGoTo (λ _. tt) (λ _. tt)) (λ _. tt))

-- no other section changes
settle_elsewhere : (t : Table) (p : ℕ) (o : Outcome) (q : ℕ) → (q ≡ p → ⊥) → place_at (settle t p o).0 q ≡ place_at t q
settle_elsewhere t p (Ok (s, done)) q h = get_or-set_other t p q s idle h
settle_elsewhere t p (Err x) q h = refl

do_elsewhere : (a : Act) (t : Table) (e p q : ℕ) → (q ≡ p → ⊥) → place_at (do_by a t e p).0 q ≡ place_at t q
do_elsewhere act.Take t e p = settle_elsewhere t p (take_outcome t e p)
do_elsewhere act.Free t e p = settle_elsewhere t p (free_outcome t e p)
do_elsewhere act.GiveUp t e p = settle_elsewhere t p (give_up_outcome t e p)

same_state : (t u : Table) (l m : List LastCall) → t ≡ u → l ≡ m → ◌≡◌ {A = State} (record { table = t; calls = l }) (record { table = u; calls = m })
same_state t u l m p q = cc

module _ (k : State) (whole : length k.calls ≡ 64) (long : length k.table ≡ 64) (c : Call) where
  ranges : known c.engine.0 c.section.place ≡ true → (c.engine.0 < 64) × (c.section.place < 64)
  ranges h = let parts = and_parts (ltb c.engine.0 64) (ltb c.section.place 64) h in (ltb-true c.engine.0 64 parts.0, ltb-true c.section.place 64 parts.1)

  -- a promise kept in each of the cases holds of the call
  pub by_cases : (P : State × Verdict → Type 0) → P (k, verdict.Malformed) → ((c.engine.0 < 64) × (c.section.place < 64) → (t : Turn) → Means (last_of k c.engine.0).number c.number t → P (numbered_of t k c)) → P (call_of k c)
  by_cases P nothing go =
      cond_both (known c.engine.0 c.section.place) _ _ P
      (λ h. go (ranges h) _ (turn_means (last_of k c.engine.0).number c.number))
      (λ _. nothing)

  -- what is read after a call whose number was used up
  used_up : c.engine.0 < 64 → (x : LastCall) → get_or (set k.calls c.engine.0 x) c.engine.0 never ≡ x
  used_up h x = get_or-set_same k.calls c.engine.0 x never (omega arith)

  unchanged : (t : Table) → t ≡ k.table → record { table = t; calls = set k.calls c.engine.0 (last_of k c.engine.0) } ≡ k
  unchanged t q = same_state t k.table (set k.calls c.engine.0 (last_of k c.engine.0)) k.calls q (set-get_or k.calls c.engine.0 never)

  pub followed : Followed k c (call_of k c).0 (call_of k c).1
  followed = by_cases (λ s. Followed k c s.0 s.1) refl numbered
    where
      ruled : (c.engine.0 < 64) × (c.section.place < 64) → IsNext k c → (t : Table) (r : Result Done Refusal) → ask_of k.table c ≡ (t, r) → Followed k c (ruled_of k c (t, r)).0 (ruled_of k c (t, r)).1
      ruled h n t (Ok did.Had) q = (n, (did.Had, q, refl), used_up h.0 _, (refl, refl))
      ruled h n t (Ok (did.Waits x)) q = (n, (did.Waits x, q, refl), used_up h.0 _, (refl, refl))
      ruled h n t (Ok (did.LetGo None)) q = (n, (did.LetGo None, q, refl), used_up h.0 _, (refl, refl))
      ruled h n t (Ok (did.LetGo (Some x))) q = ((n, (did.LetGo (Some x), q, refl), used_up h.0 _, (refl, refl)), (x, ap holder_of (do_names c.act k.table c.engine.0 c.section.place t (Some x) (omega arith) q)))
      ruled h n t (Ok did.Left) q = (n, (did.Left, q, refl), used_up h.0 _, (refl, refl))
      ruled h n t (Err refused.OutOfRange) q = unchanged t (do_err c.act k.table c.engine.0 c.section.place t refused.OutOfRange q)
      ruled h n t (Err refused.Waiting) q = (do_err c.act k.table c.engine.0 c.section.place t refused.Waiting q, n, refl, used_up h.0 _, (refl, refl))
      ruled h n t (Err refused.Mismatch) q = (do_err c.act k.table c.engine.0 c.section.place t refused.Mismatch q, n, refl, used_up h.0 _, (refl, refl))
      ruled h n t (Err refused.AtLimit) q = (unchanged t (do_err c.act k.table c.engine.0 c.section.place t refused.AtLimit q), n, refl, (refl, refl))

      numbered : (c.engine.0 < 64) × (c.section.place < 64) → (t : Turn) → Means (last_of k c.engine.0).number c.number t → Followed k c (numbered_of t k c).0 (numbered_of t k c).1
      numbered h turn.Last n = (refl, ap (λ (m : ℕ). record { number = m; answer = (last_of k c.engine.0).answer }) (sym n))
      numbered h turn.Next n = ruled h n (ask_of k.table c).0 (ask_of k.table c).1 refl
      numbered h turn.Other n = (refl, n)

  pub one_section : OneSection k c (call_of k c).0
  one_section = by_cases (λ s. OneSection k c s.0) (λ place h. refl) numbered
    where
      numbered : (c.engine.0 < 64) × (c.section.place < 64) → (t : Turn) → Means (last_of k c.engine.0).number c.number t → OneSection k c (numbered_of t k c).0
      numbered h turn.Last n = λ place h. refl
      numbered h turn.Next n = do_elsewhere c.act k.table c.engine.0 c.section.place
      numbered h turn.Other n = λ place h. refl

  pub risen : Risen k c (call_of k c).0
  risen = by_cases (λ s. Risen k c s.0) (λ e. inl refl) numbered
    where
      used : IsNext k c → (v : Verdict) (e : ℕ) → e ≡ c.engine.0 → (x : LastCall) → x ≡ used_of (last_of k c.engine.0) c.number v →
          (x ≡ last_of k e) ⊎ ((e ≡ c.engine.0) × IsNext k c × (x.number ≡ c.number))
      used n verdict.Malformed e q x r = inl (r ∙ ap (last_of k) (sym q))
      used n verdict.PassedOver e q x r = inl (r ∙ ap (last_of k) (sym q))
      used n (verdict.Again a) e q x r = inl (r ∙ ap (last_of k) (sym q))
      used n (verdict.AtLimit a) e q x r = inl (r ∙ ap (last_of k) (sym q))
      used n (verdict.Refused y a) e q x r = inr (q, n, ap (λ (z : LastCall). z.number) r)
      used n (verdict.Done a) e q x r = inr (q, n, ap (λ (z : LastCall). z.number) r)
      used n (verdict.PassedOn a) e q x r = inr (q, n, ap (λ (z : LastCall). z.number) r)

      after : c.engine.0 < 64 → IsNext k c → (t : Table) (v : Verdict) → Risen k c (kept_of k c t v).0
      after h n t v e =
          let x = used_of (last_of k c.engine.0) c.number v in
          elim (cases_eq e c.engine.0) [
            | inl q ↦ used n v e q (get_or (set k.calls c.engine.0 x) e never) (ap (λ i. get_or (set k.calls c.engine.0 x) i never) q ∙ used_up h x)
            | inr q ↦ inl (get_or-set_other k.calls c.engine.0 e x never q)
          ]

      numbered : (c.engine.0 < 64) × (c.section.place < 64) → (t : Turn) → Means (last_of k c.engine.0).number c.number t → Risen k c (numbered_of t k c).0
      numbered h turn.Last n = λ e. inl refl
      numbered h turn.Next n =
          let asked = ask_of k.table c in
          after h.0 n asked.0 (verdict_of (answer_of asked.0 c.section.place asked.1) asked.1)
      numbered h turn.Other n = λ e. inl refl

  -- a call that is its engine's last is answered as it was
  pub repeated : (after : State) (a : Answer) → known c.engine.0 c.section.place ≡ true → (c.number ≡ 0 → ⊥) → UsedUp after c a → call_of after c ≡ (after, verdict.Again a)
  repeated after a h n u =
      ap (λ b. cond b (numbered_of (turn_of (last_of after c.engine.0).number c.number) after c) (after, verdict.Malformed)) h ∙
      ap (λ (x : LastCall). numbered_of (turn_of x.number c.number) after c) u ∙
      ap (λ t. numbered_of t after c) (same_turn c.number n) ∙
      ap (λ (x : LastCall). (after, verdict.Again x.answer)) u

  out_of_range : known c.engine.0 c.section.place ≡ false → call_of k c ≡ (k, verdict.Malformed)
  out_of_range h = ap (λ b. cond b (numbered_of (turn_of (last_of k c.engine.0).number c.number) k c) (k, verdict.Malformed)) h

  in_range : (after : State) (v : Verdict) → (after, v) ≡ call_of k c → (v ≡ verdict.Malformed → ⊥) → known c.engine.0 c.section.place ≡ true
  in_range after v q z =
      elim (cases_Bool (known c.engine.0 c.section.place)) [
        | inl h ↦ h
        | inr h ↦ absurd (z (ap (λ s. s.1) (q ∙ out_of_range h)))
      ]

  same : (after : State) (v : Verdict) → (after, v) ≡ call_of k c → after ≡ k → call_of after c ≡ (after, v)
  same after v q h = ap (λ s. call_of s c) h ∙ sym q

  above : IsNext k c → c.number ≡ 0 → ⊥
  above n z = omega arith

  pub again : (after : State) (v : Verdict) → (after, v) ≡ call_of k c → Followed k c after v → AnsweredAgain c after v
  again after verdict.Malformed q f = same after verdict.Malformed q f
  again after verdict.PassedOver q f = same after verdict.PassedOver q f.0
  again after (verdict.Again a) q f = same after (verdict.Again a) q f.0
  again after (verdict.AtLimit a) q f = same after (verdict.AtLimit a) q f.0
  again after (verdict.Refused r a) q f = repeated after a (in_range after (verdict.Refused r a) q (λ e. cc)) (above f.1) f.3
  again after (verdict.Done a) q f = repeated after a (in_range after (verdict.Done a) q (λ e. cc)) (above f.0) f.2
  again after (verdict.PassedOn a) q f = repeated after a (in_range after (verdict.PassedOn a) q (λ e. cc)) (above f.0.0) f.0.2

-- a box has 64 sections
pub long_of : (k : Keeper) → length (model_of k).table ≡ 64
long_of k = length-map k.sections.rows section_of ∙ k.sections.whole
