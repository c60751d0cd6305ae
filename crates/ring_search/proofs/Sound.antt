-- The search from one engine gives its ring exactly where it is the lowest of one: sixty-four steps are enough, since a ring passes nobody twice.
-- Assumes nothing.
use Rattle.std.proofs.Common.{◌≡◌, ℕ, zero, suc, ◌-◌, ◌<◌, ◌≤◌, eqb, ltb, ◌⊎◌, List, [], ◌∷◌, ◌++◌, length, Some, None, Option, refl, ap, ◌∙◌, inl, inr, append_assoc, arith}
use mathlib.Core.List.{Memᴰ}
use Rattle.std.proofs.lemmas.Bool.{cases_lt, cond_both, cond-false, eq-eqb, ne_eqb, le-ltb, eqb-true, eqb-false, ltb-true, ltb-false}
use Rattle.signs.specs.Signs.{Wait}
use Rattle.ring_search.specs.Chase.{follow, chase}
use Rattle.ring_search.specs.Search.{Judged, after_of, upward, best_of, judged, ring_at}
use Rattle.ring_search.specs.Exactly.{Links, HasHighest}
use Rattle.ring_search.proofs.Chase.{chase_back, chase_next}

-- where the search goes on, by the wait
after_some : (v : Wait) (f y : ℕ) → after_of v f ≡ Some y → (v ≡ Some y) × (f ≤ y)
after_some None f y = λ q. cc
after_some (Some x) f y =
    cond_both (ltb x f) None (Some x) (λ (n : Wait). n ≡ Some y → (Some x ≡ Some y) × (f ≤ y))
    (λ s q. cc)
    (λ s q. let same : x ≡ y = cc in (q, omega (arith, ltb-false x f s)))

some_after : (v : Wait) (f y : ℕ) → v ≡ Some y → f ≤ y → after_of v f ≡ Some y
some_after v f y q h = rw q (cond-false (ltb y f) None (Some y) (le-ltb y f h))

-- what the search gives is a way back to the first, past higher engines only
pub sound : (w : ℕ → Wait) (f n at : ℕ) (done r : List ℕ) → chase eqb (upward w f) f n at done ≡ Some r →
    (xs : List ℕ) × (r ≡ done ++ at ∷ xs) × Links w at xs f × ((y : ℕ) → Memᴰ y xs → f < y)
unfolding chase
sound w f zero at done r q = cc
sound w f (suc n) at done r q = go (after_of (w at) f) refl q (λ next k. sound w f n next (done ++ at ∷ []) r k)
  where
    go : (x : Wait) → after_of (w at) f ≡ x → follow eqb f (done ++ at ∷ []) (λ next. chase eqb (upward w f) f n next (done ++ at ∷ [])) x ≡ Some r →
        ((next : ℕ) → chase eqb (upward w f) f n next (done ++ at ∷ []) ≡ Some r →
        (xs : List ℕ) × (r ≡ (done ++ at ∷ []) ++ next ∷ xs) × Links w next xs f × ((y : ℕ) → Memᴰ y xs → f < y)) →
        (xs : List ℕ) × (r ≡ done ++ at ∷ xs) × Links w at xs f × ((y : ℕ) → Memᴰ y xs → f < y)
    go None e k ih = cc
    go (Some next) e k ih =
        let on = after_some (w at) f next e in
        cond_both (eqb next f) (Some (done ++ at ∷ [])) (chase eqb (upward w f) f n next (done ++ at ∷ []))
        (λ (z : Option (List ℕ)). z ≡ Some r → (xs : List ℕ) × (r ≡ done ++ at ∷ xs) × Links w at xs f × ((y : ℕ) → Memᴰ y xs → f < y))
        (λ t p.
        let same : r ≡ done ++ at ∷ [] = cc in
        ([], same, on.0 ∙ ap Some (eqb-true next f t), λ y m. absurd (mathlib.Core.List.Memᴰ.not-nil m)))
        (λ t p.
        let s = ih next p in
        let over : f < next = elim (cases_lt f next) [ inl up ↦ up | inr down ↦ absurd (eqb-false next f t (omega (arith, on.1))) ] in (
          next ∷ s.0,
          s.1 ∙ append_assoc done (at ∷ []) (next ∷ s.0),
          (on.0, s.2),
          λ y m. elim (mathlib.Core.List.Memᴰ.cases_cons m) [ inl j ↦ rw j over | inr j ↦ s.3 y j ],
        ))
        k

-- and a way back to the first, past higher engines only, is what it gives, if it may go so far
pub complete : (w : ℕ → Wait) (f n at : ℕ) (done xs : List ℕ) → Links w at xs f → ((y : ℕ) → Memᴰ y xs → f < y) → length xs < n →
    chase eqb (upward w f) f n at done ≡ Some (done ++ at ∷ xs)
complete w f n at done [] h high room =
    chase_back eqb (upward w f) f n at f done (omega arith) (some_after (w at) f f h (omega arith)) (eq-eqb f f refl)
complete w f n at done (y ∷ ys) h high room =
    let over : f < y = high y (mathlib.Core.List.Memᴰ.head refl) in
    chase_next eqb (upward w f) f n at y done (omega arith) (some_after (w at) f y h.0 (omega arith)) (ne_eqb y f (λ e. omega arith))
    ∙ complete w f (n - 1) y (done ++ at ∷ []) ys h.1 (λ u m. high u (mathlib.Core.List.Memᴰ.tail m)) (omega arith)
    ∙ ap Some (append_assoc done (at ∷ []) (y ∷ ys))

-- the best is one of those compared, and none is better
best_high : (own : ℕ → ℕ) (b : ℕ) (xs : List ℕ) →
    ((best_of own b xs ≡ b) ⊎ Memᴰ (best_of own b xs) xs) × (own b ≤ own (best_of own b xs)) × ((y : ℕ) → Memᴰ y xs → own y ≤ own (best_of own b xs))
best_high own b [] = (inl refl, omega arith, λ y m. absurd (mathlib.Core.List.Memᴰ.not-nil m))
best_high own b (x ∷ xs) =
    cond_both (ltb (own b) (own x)) x b
    (λ (z : ℕ).
    ((best_of own z xs ≡ b) ⊎ Memᴰ (best_of own z xs) (x ∷ xs)) × (own b ≤ own (best_of own z xs)) × ((y : ℕ) → Memᴰ y (x ∷ xs) → own y ≤ own (best_of own z xs)))
    (λ t.
    let s = best_high own x xs in (
      inr (elim s.0 [ inl q ↦ mathlib.Core.List.Memᴰ.head q | inr m ↦ mathlib.Core.List.Memᴰ.tail m ]),
      omega (arith, ltb-true (own b) (own x) t, s.1),
      λ y m. elim (mathlib.Core.List.Memᴰ.cases_cons m) [ inl e ↦ rw e s.1 | inr k ↦ s.2 y k ],
    ))
    (λ t.
    let s = best_high own b xs in (
      elim s.0 [ inl q ↦ inl q | inr m ↦ inr (mathlib.Core.List.Memᴰ.tail m) ],
      s.1,
      λ y m. elim (mathlib.Core.List.Memᴰ.cases_cons m) [ inl e ↦ rw e (omega (arith, ltb-false (own b) (own x) t, s.1)) | inr k ↦ s.2 y k ],
    ))

-- an engine's ring, in parts
pub record RingFrom (w : ℕ → Wait) (own : ℕ → ℕ) (e : ℕ) (r : Judged) : Type 0 where
  pub rest : List ℕ
  pub engines : r.engines ≡ e ∷ rest
  pub links : Links w e rest e
  pub above : (y : ℕ) → Memᴰ y rest → e < y
  pub high : HasHighest own r

pub ring_from : (w : ℕ → Wait) (own : ℕ → ℕ) (e : ℕ) (r : Judged) → ring_at w own e ≡ Some r → RingFrom w own e r
ring_from w own e r = go (chase eqb (upward w e) e 64 e []) refl
  where
    go : (o : Option (List ℕ)) → chase eqb (upward w e) e 64 e [] ≡ o → judged own e o ≡ Some r → RingFrom w own e r
    go None p q = cc
    go (Some xs) p q =
        let s = sound w e 64 e [] xs p in
        let is : r ≡ record { engines = xs; finder = best_of own e xs } = cc in
        let b = best_high own e xs in
        let first : Memᴰ e xs = rw s.1 (mathlib.Core.List.Memᴰ.head refl) in
        record {
          rest = s.0;
          engines = ap (λ (j : Judged). j.engines) is ∙ s.1;
          links = s.2;
          above = s.3;
          high =
              rw is (
                elim b.0 [ inl k ↦ mathlib.Core.List.Memᴰ.cast k first | inr m ↦ m ],
                b.2,
              );
        }
