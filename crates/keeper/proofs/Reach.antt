-- A keeper names no engine beyond those that call it: by what a call makes of one section.
use Rattle.std.proofs.Common.{◌≡◌, ℕ, ◌+◌, ◌<◌, true, not, eqb, List, [], ◌∷◌, ◌++◌, length, get_or, set, replicate, Some, None, Ok, Err, Option, Result, sym, refl, ◌∙◌, inl, inr}
use Rattle.std.proofs.lemmas.List.{get_or_past, get_or-replicate, length-replicate}
use Rattle.std.proofs.lemmas.Bool.{and_parts, cases_lt, cond_both, eq-eqb, eqb-true, or_cases, or_left, or_right}
use Rattle.messages.specs.declared.yard.Yard.{Yard}
use Rattle.messages.specs.declared.message.Act.{Act}
use Rattle.messages.specs.declared.message.Act.TheVariants as act
use Rattle.messages.specs.declared.message.Call.{Call}
use Rattle.messages.specs.Range.{HolderIn}
use Rattle.sections.specs.declared.Done.{Done}
use Rattle.sections.specs.declared.Done.TheVariants as did
use Rattle.sections.specs.declared.Refusal.{Refusal}
use Rattle.sections.specs.declared.Refusal.TheVariants as refused
use Rattle.sections.specs.Table.{Holder, Outcome, Section, Table, changeable, first_of, free_by, free_outcome, give_up_outcome, give_up_section, idle, is_in, known, refusal_of, rest_of, place_at, settle, take_by, take_outcome, unless}
use Rattle.sections.proofs.Lists.{is_in_push, is_in_without}
use Rattle.sections.proofs.Sound.{same_engine}
use Rattle.sections.proofs.Tables.{put_read, set_read}
use Rattle.keeper.specs.declared.LastCall.{LastCall}
use Rattle.keeper.specs.declared.Verdict.{Verdict}
use Rattle.keeper.specs.declared.Verdict.TheVariants as verdict
use Rattle.keeper.specs.declared.calls.Turn.{Turn}
use Rattle.keeper.specs.declared.calls.Turn.TheVariants as turn
use Rattle.keeper.specs.Model.{State, fresh, last_of, never}
use Rattle.keeper.specs.Calls.{answer_of, ask_of, call_of, do_by, kept_of, numbered_of, used_of}
use Rattle.keeper.specs.Words.{holder_of, verdict_of}
use Rattle.keeper.specs.Runs.{after}
use Rattle.keeper.specs.Range.{AnswerIn, StaysInYard, SectionWithin, StaysWithin, VerdictIn, Within}
use Rattle.keeper.proofs.OneCall.{Means, by_cases}
use Rattle.keeper.proofs.Runs.{full_after}

module _ (y : Yard) where
  -- what a call makes of a section within the yard is within it
  abbrev OutcomeWithin : Outcome → Type 0
  OutcomeWithin (Ok (s, done)) = SectionWithin y s
  OutcomeWithin (Err r) = Unit {0}

  unless_within : (r : Option Refusal) (o : Outcome) → OutcomeWithin o → OutcomeWithin (unless r o)
  unless_within (Some r) o h = tt
  unless_within None o h = h

  pushed : (xs : List ℕ) (e : ℕ) → e < y.engines → ((x : ℕ) → is_in x xs ≡ true → x < y.engines) → (x : ℕ) → is_in x (xs ++ e ∷ []) ≡ true → x < y.engines
  pushed xs e h all x w =
      elim (or_cases (eqb e x) (is_in x xs) (sym (is_in_push x e xs) ∙ w)) [ inl q ↦ rw (eqb-true e x q) at h | inr q ↦ all x q ]

  take_within : (by : Holder) (s : Section) (e : ℕ) → s.has ≡ by → e < y.engines → SectionWithin y s → OutcomeWithin (take_by by s e)
  take_within None s e q h w =
      cond_both (changeable s) _ _ OutcomeWithin (λ _. (λ x r. rw (same_engine (Some e) e x refl r) at h, w.1)) (λ _. tt)
  take_within (Some f) s e q h w = cond_both (eqb f e) _ _ OutcomeWithin (λ _. tt) (λ _. (w.0, pushed s.queue e h w.1))

  passed : (c : ℕ) (xs : List ℕ) → ((x : ℕ) → is_in x xs ≡ true → x < y.engines) → SectionWithin y (record { has = first_of xs; queue = rest_of xs; change = c })
  passed c [] all = (λ x r. cc, all)
  passed c (f ∷ xs) all =
      (λ x r. rw (same_engine (Some f) f x refl r) at (all f (or_left (eqb f f) (is_in f xs) (eq-eqb f f refl))), λ x r. all x (or_right (eqb f x) (is_in x xs) r))

  free_within : (by : Holder) (s : Section) (e : ℕ) → SectionWithin y s → OutcomeWithin (free_by by s e)
  free_within None s e w = tt
  free_within (Some f) s e w =
      cond_both (eqb f e) _ _ OutcomeWithin (λ _. cond_both (changeable s) _ _ OutcomeWithin (λ _. passed (s.change + 1) s.queue w.1) (λ _. tt)) (λ _. tt)

  give_up_within : (s : Section) (e : ℕ) → SectionWithin y s → OutcomeWithin (give_up_section s e)
  give_up_within s e w =
      cond_both (is_in e s.queue) _ _ OutcomeWithin
      (λ _. (w.0, λ x r. w.1 x (and_parts (not (eqb e x)) (is_in x s.queue) (sym (is_in_without x e s.queue) ∙ r)).1))
      (λ _. tt)

  abbrev TableWithin : Table → Type 0
  TableWithin t = (place : ℕ) → SectionWithin y (place_at t place)

  settle_within : (t : Table) (p : ℕ) (o : Outcome) → TableWithin t → OutcomeWithin o → TableWithin (settle t p o).0
  settle_within t p (Ok (s, done)) all h q = elim (put_read t p s q) [ inl r ↦ rw r.1 h | inr r ↦ rw r (all q) ]
  settle_within t p (Err x) all h q = all q

  do_within : (a : Act) (t : Table) (e p : ℕ) → e < y.engines → TableWithin t → TableWithin (do_by a t e p).0
  do_within act.Take t e p h all =
      settle_within t p (take_outcome t e p) all (unless_within (refusal_of t e p) _ (take_within (place_at t p).has (place_at t p) e refl h (all p)))
  do_within act.Free t e p h all =
      settle_within t p (free_outcome t e p) all (unless_within (refusal_of t e p) _ (free_within (place_at t p).has (place_at t p) e (all p)))
  do_within act.GiveUp t e p h all =
      settle_within t p (give_up_outcome t e p) all (cond_both (known e p) _ _ OutcomeWithin (λ _. give_up_within (place_at t p) e (all p)) (λ _. tt))

  holder_in : (h : Holder) → ((e : ℕ) → h ≡ Some e → e < y.engines) → HolderIn y (holder_of h)
  holder_in None all = tt
  holder_in (Some e) all = all e refl

  -- a kept answer is in the yard, and so is one given anew
  used_in : (last : LastCall) (n : ℕ) (v : Verdict) → AnswerIn y last.answer → VerdictIn y v → AnswerIn y (used_of last n v).answer
  used_in last n verdict.Malformed a v = a
  used_in last n verdict.PassedOver a v = a
  used_in last n (verdict.Again x) a v = a
  used_in last n (verdict.AtLimit x) a v = a
  used_in last n (verdict.Refused r x) a v = v
  used_in last n (verdict.Done x) a v = v
  used_in last n (verdict.PassedOn x) a v = v

  verdict_in : (t : Table) (p : ℕ) (r : Result Done Refusal) → TableWithin t → VerdictIn y (verdict_of (answer_of t p r) r)
  verdict_in t p (Ok did.Had) all = (tt, holder_in (place_at t p).has (all p).0)
  verdict_in t p (Ok (did.Waits x)) all = (tt, holder_in (place_at t p).has (all p).0)
  verdict_in t p (Ok (did.LetGo None)) all = (tt, holder_in (place_at t p).has (all p).0)
  verdict_in t p (Ok (did.LetGo (Some x))) all = (tt, holder_in (place_at t p).has (all p).0)
  verdict_in t p (Ok did.Left) all = (tt, holder_in (place_at t p).has (all p).0)
  verdict_in t p (Err refused.OutOfRange) all = tt
  verdict_in t p (Err refused.Waiting) all = (tt, holder_in (place_at t p).has (all p).0)
  verdict_in t p (Err refused.Mismatch) all = (tt, holder_in (place_at t p).has (all p).0)
  verdict_in t p (Err refused.AtLimit) all = (tt, holder_in (place_at t p).has (all p).0)

  kept_within : (k : State) (c : Call) (t : Table) (v : Verdict) → TableWithin t → VerdictIn y v → Within y k → Within y (kept_of k c t v).0
  kept_within k c t v all i w = (all, kept)
    where
      kept : (e : ℕ) → AnswerIn y (get_or (set k.calls c.engine.0 (used_of (last_of k c.engine.0) c.number v)) e never).answer
      kept e =
          elim (set_read never k.calls c.engine.0 (used_of (last_of k c.engine.0) c.number v) e) [
            | inl r ↦ rw r.1 (used_in (last_of k c.engine.0) c.number v (w.1 c.engine.0) i)
            | inr r ↦ rw r (w.1 e)
          ]

-- a call of an engine of the yard leaves the keeper within it
pub stays_within : (k : State) → length k.calls ≡ 64 → length k.table ≡ 64 → (c : Call) → StaysWithin k c (call_of k c).0 (call_of k c).1
stays_within k whole long c y h w = by_cases k whole long c (λ s. Within y s.0 × VerdictIn y s.1) (w, tt) numbered
  where
    numbered : (c.engine.0 < 64) × (c.section.place < 64) → (t : Turn) → Means (last_of k c.engine.0).number c.number t →
        Within y (numbered_of t k c).0 × VerdictIn y (numbered_of t k c).1
    numbered _ turn.Last n = (w, w.1 c.engine.0)
    numbered _ turn.Next n =
        let asked = ask_of k.table c in
        let all = do_within y c.act k.table c.engine.0 c.section.place h w.0 in
        let i = verdict_in y asked.0 c.section.place asked.1 all in
        (kept_within y k c asked.0 (verdict_of (answer_of asked.0 c.section.place asked.1) asked.1) all i w, i)
    numbered _ turn.Other n = (w, tt)

-- a keeper that nobody called names nobody
everywhere : {X : Type 0} (x : X) (i : ℕ) → get_or (replicate 64 x) i x ≡ x
everywhere x i = elim (cases_lt i 64) [ inl h ↦ get_or-replicate 64 i x x h | inr h ↦ get_or_past (replicate 64 x) i x (rw (length-replicate 64 x) h) ]

fresh_within : (y : Yard) → Within y fresh
fresh_within y = (λ p. rw (everywhere idle p) (λ e q. cc, λ e w. cc), λ e. rw (everywhere never e) (tt, tt))

pub stays_in_yard : StaysInYard
stays_in_yard y [] h = fresh_within y
stays_in_yard y (c ∷ calls) h =
    let full = full_after calls in
    (stays_within (after calls) full.0 full.1 c y h.0 (stays_in_yard y calls h.1)).0
