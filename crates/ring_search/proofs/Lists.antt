-- Lists whose elements are apart: as many as numbers at most, and turned round they stay so.
-- Assumes nothing.
use Rattle.std.proofs.Common.{◌≡◌, ℕ, ◌<◌, ◌≤◌, Bool, true, false, ◌||◌, eqb, ◌⊎◌, List, [], ◌∷◌, ◌++◌, length, sym, refl, ap, ◌∙◌, inl, inr, arith}
use mathlib.Core.List.Memᴰ
use mathlib.Core.List.{Memᴰ}
use Rattle.std.specs.List.{AllByRecursion, IsDistinct, list_any}
use Rattle.std.proofs.lemmas.Bool.{cases_eq, cases_lt, ne_eqb}
use Rattle.std.proofs.lemmas.Map.Steps.{length-le_from_distinct_below}
use Rattle.ring_search.specs.Exactly.{Apart}

pub mem_snoc : {A : Type 0} {a b : A} (xs : List A) → Memᴰ a (xs ++ b ∷ []) → Memᴰ a xs ⊎ (a ≡ b)
mem_snoc [] m = elim (Memᴰ.cases_cons m) [ inl q ↦ inr q | inr n ↦ absurd (Memᴰ.not-nil n) ]
mem_snoc {A} {a} {b} (x ∷ xs) m = first (Memᴰ.cases_cons m) (λ n. mem_snoc xs n)
  where
    first : (a ≡ x) ⊎ Memᴰ a (xs ++ b ∷ []) → (Memᴰ a (xs ++ b ∷ []) → Memᴰ a xs ⊎ (a ≡ b)) → Memᴰ a (x ∷ xs) ⊎ (a ≡ b)
    first (inl q) f = inl (Memᴰ.head q)
    first (inr n) f = elim (f n) [ inl k ↦ inl (Memᴰ.tail k) | inr q ↦ inr q ]

pub apart_snoc : {b : ℕ} (xs : List ℕ) → Apart xs → (Memᴰ b xs → ⊥) → Apart (xs ++ b ∷ [])
apart_snoc [] h f = (λ m. Memᴰ.not-nil m, tt)
apart_snoc {b} (x ∷ xs) h f = (
  λ m. elim (mem_snoc xs m) [ inl k ↦ h.0 k | inr q ↦ f (Memᴰ.head (sym q)) ],
  apart_snoc xs h.1 (λ m. f (Memᴰ.tail m)),
)

differ : (x : ℕ) (xs : List ℕ) → (Memᴰ x xs → ⊥) → AllByRecursion (λ y. eqb x y ≡ false) xs
differ x [] f = tt
differ x (y ∷ ys) f = (ne_eqb x y (λ e. f (Memᴰ.head e)), differ x ys (λ m. f (Memᴰ.tail m)))

distinct : (xs : List ℕ) → Apart xs → IsDistinct eqb xs
unfolding IsDistinct
distinct [] h = tt
distinct (x ∷ xs) h = (differ x xs h.0, distinct xs h.1)

member : (q : ℕ) (xs : List ℕ) → list_any (eqb q) xs ≡ true → Memᴰ q xs
member q [] e = cc
member q (x ∷ xs) e =
    elim (cases_eq q x) [
      | inl p ↦ Memᴰ.head p
      | inr ne ↦ Memᴰ.tail (member q xs (sym (ap (λ (t : Bool). t || list_any (eqb q) xs) (ne_eqb q x ne)) ∙ e))
    ]

-- numbers below n, apart from one another, are at most n
pub few : (n : ℕ) (xs : List ℕ) → Apart xs → ((y : ℕ) → Memᴰ y xs → y < n) → length xs ≤ n
few n xs h low = length-le_from_distinct_below xs n (distinct xs h) (λ q e. low q (member q xs e))

-- the lowest of some numbers
pub least : (x : ℕ) (xs : List ℕ) → (l : ℕ) × Memᴰ l (x ∷ xs) × ((y : ℕ) → Memᴰ y (x ∷ xs) → l ≤ y)
least x [] =
    (x, Memᴰ.head refl, λ y m. elim (Memᴰ.cases_cons m) [ inl e ↦ omega arith | inr k ↦ absurd (Memᴰ.not-nil k) ])
least x (z ∷ zs) = go (least z zs)
  where
    go : (l : ℕ) × Memᴰ l (z ∷ zs) × ((y : ℕ) → Memᴰ y (z ∷ zs) → l ≤ y) → (l : ℕ) × Memᴰ l (x ∷ z ∷ zs) × ((y : ℕ) → Memᴰ y (x ∷ z ∷ zs) → l ≤ y)
    go s =
        elim (cases_lt x s.0) [
          | inl k ↦ (
            x,
            Memᴰ.head refl,
            λ y m. elim (Memᴰ.cases_cons m) [ inl e ↦ omega arith | inr j ↦ omega (arith, s.2 y j) ],
          )
          | inr k ↦ (
            s.0,
            Memᴰ.tail s.1,
            λ y m. elim (Memᴰ.cases_cons m) [ inl e ↦ omega arith | inr j ↦ s.2 y j ],
          )
        ]
