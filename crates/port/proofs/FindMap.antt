-- What `find_map` gives over a run of numbers is the first that there is under them.
-- Assumes nothing.
use Rattle.std.proofs.Common.{◌≡◌, ℕ, zero, suc, ◌+◌, ◌-◌, ◌<◌, ◌≤◌, Some, None, Option, sym, refl, ap, ◌∙◌, subst, arith}
use denote.Param.Members.{Mut}
use Rattle.std.specs.Fn.{Called}
use Rattle.std.specs.declared.ops.Range.{Range}
use Rattle.std.specs.Prelude.{IfSome, IsSomeAnd, IsTrue, MatchOption}
use Rattle.std.specs.Iterator.Runs.{AllItemsGive, CallKeepsClosure, IsFirstToGive, ItemsCountUp, Run, SomeRun}
use Rattle.std.proofs.iter.Yields.{nat_range_steps}
use Rattle.std.proofs.iter.runs.Sources.{range_runs}
use Rattle.std.proofs.lemmas.Iterator.Adapters.{option_map_id}
use Rattle.port.specs.Walk.{first_from, or_else}
use Rattle.port.proofs.Looking.{first_end, first_on}

module _ {A : Type 0} (f : ℕ → Option A) where
  -- the first under the numbers behind the first of them
  further : (left n : ℕ) → f n ≡ None → first_from f (suc left) n ≡ first_from f left (n + 1)
  further left n e =
      let q : suc left - 1 ≡ left = omega arith in
      first_on f (suc left) n (omega arith) ∙ ap (λ (o : Option A). or_else o (first_from f (suc left - 1) (n + 1))) e ∙ ap (λ (k : ℕ). first_from f k (n + 1)) q

  nothing : (left n : ℕ) → ((k : ℕ) → k < left → f (n + k) ≡ None) → first_from f left n ≡ None
  nothing zero n none = first_end f 0 n refl
  nothing (suc left) n none =
      let z : n ≡ n + 0 = omega arith in
      further left n (ap f z ∙ none 0 (omega arith))
      ∙ nothing left (n + 1) (λ k lt. let m : n + 1 + k ≡ n + (k + 1) = omega arith in ap f m ∙ none (k + 1) (omega arith))

  found_at : (left n i : ℕ) (y : A) → i < left → ((k : ℕ) → k < i → f (n + k) ≡ None) → f (n + i) ≡ Some y → first_from f left n ≡ Some y
  found_at zero n i y lt none here = absurd (omega arith)
  found_at (suc left) n zero y lt none here =
      let z : n ≡ n + 0 = omega arith in
      first_on f (suc left) n (omega arith) ∙ ap (λ (o : Option A). or_else o (first_from f (suc left - 1) (n + 1))) (ap f z ∙ here)
  found_at (suc left) n (suc i) y lt none here =
      let z : n ≡ n + 0 = omega arith in
      let s : n + 1 + i ≡ n + suc i = omega arith in
      further left n (ap f z ∙ none 0 (omega arith))
      ∙ found_at left (n + 1) i y (omega arith) (λ k lt. let m : n + 1 + k ≡ n + (k + 1) = omega arith in ap f m ∙ none (k + 1) (omega arith)) (ap f s ∙ here)

module _ {F A : Type 0} (g : Mut F (ℕ × Unit {0}) (Option A)) (h : ℕ → Option A) (f : F)
    (does : (x : ℕ) (o : Option A) (q : F) → Called g f (x, tt) o q → (q ≡ f) × (o ≡ h x)) where
  keeps : CallKeepsClosure g f
  keeps a o q called = (does a.0 o q called).0

  -- the item at a place of a run
  item : (p : Run nat_range_steps) (k : ℕ) → k < p.len → p.at k ≡ Some (p.from.start + k)
  item p k lt = let counts : ItemsCountUp p p.from.start p.from.end = range_runs p p.seen in sym (option_map_id (p.at k)) ∙ counts.3 k lt

  pub found_first : (s : Range ℕ) (r : Option A) →
      SomeRun nat_range_steps s
      (λ p. MatchOption r (IsTrue p.whole × AllItemsGive p g f None) (λ y. (i : ℕ) × (i < p.len) × (p.len ≡ i + 1) × IsFirstToGive p g f (Some y) None i)) →
      r ≡ first_from h (s.end - s.start) s.start
  found_first s None (p, from, (whole, all)) =
      let counts : ItemsCountUp p p.from.start p.from.end = range_runs p p.seen in
      let long : p.len ≡ p.from.end - p.from.start = counts.1 whole in
      sym
      (subst (λ (t : Range ℕ). first_from h (t.end - t.start) t.start ≡ None) from
      (nothing h (p.from.end - p.from.start) p.from.start
      (λ k lt.
      let P : Option ℕ → Type 0 = λ o. IfSome o (λ x. Called g f (x, tt) None f) in
      sym (does (p.from.start + k) None f (subst P (item p k (omega arith)) (all keeps k))).1)))
  found_first s (Some y) (p, from, (i, lt, len, first)) =
      let counts : ItemsCountUp p p.from.start p.from.end = range_runs p p.seen in
      let short : p.len ≤ p.from.end - p.from.start = counts.0 in
      let Hit : Option ℕ → Type 0 = λ o. IsSomeAnd o (λ x. Called g f (x, tt) (Some y) f) in
      let Miss : Option ℕ → Type 0 = λ o. IsSomeAnd o (λ x. Called g f (x, tt) None f) in
      sym
      (subst (λ (t : Range ℕ). first_from h (t.end - t.start) t.start ≡ Some y) from
      (found_at h (p.from.end - p.from.start) p.from.start i y (omega arith)
      (λ k under. sym (does (p.from.start + k) None f (subst Miss (item p k (omega arith)) ((first keeps).1 k under))).1)
      (sym (does (p.from.start + i) (Some y) f (subst Hit (item p i lt) (first keeps).0)).1)))
