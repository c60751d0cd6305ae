-- A ring turned round to any of its engines is a ring of the same engines, and from one engine there is one ring only.
-- Assumes nothing.
use Rattle.std.proofs.Common.{◌≡◌, ℕ, ◌<◌, List, [], ◌∷◌, ◌++◌, length, refl, ap, inl, inr, append_assoc, arith, Some}
use mathlib.Core.List.Memᴰ
use mathlib.Core.List.{Memᴰ}
use Rattle.signs.specs.Signs.{Wait}
use Rattle.ring_search.specs.Exactly.{Links, Apart, IsRing}
use Rattle.ring_search.proofs.Lists.{mem_snoc, apart_snoc}

pub for_same : {w : Wait} {i j : ℕ} → w ≡ Some i → w ≡ Some j → i ≡ j
for_same p q = cc

-- the same engines stand in both lists
abbrev pub Alike : List ℕ → List ℕ → Type 0
Alike xs ys = ((y : ℕ) → Memᴰ y xs → Memᴰ y ys) × ((y : ℕ) → Memᴰ y ys → Memᴰ y xs)

alike_one : (a : ℕ) (xs : List ℕ) → Alike (a ∷ xs) (xs ++ a ∷ [])
alike_one a xs = (
  λ y m. elim (Memᴰ.cases_cons m) [ inl e ↦ Memᴰ.append_right xs (Memᴰ.head e) | inr k ↦ Memᴰ.append_left (a ∷ []) k ],
  λ y m. elim (mem_snoc xs m) [ inl k ↦ Memᴰ.tail k | inr e ↦ Memᴰ.head e ],
)

module _ (w : ℕ → Wait) where
  link_snoc : (a z u : ℕ) (cs : List ℕ) → Links w a cs z → w z ≡ Some u → Links w a (cs ++ z ∷ []) u
  link_snoc a z u [] h e = (h, e)
  link_snoc a z u (b ∷ bs) h e = (h.0, link_snoc b z u bs h.1 e)

  turn_one : (a : ℕ) (xs : List ℕ) → IsRing w (a ∷ xs) → IsRing w (xs ++ a ∷ [])
  turn_one a [] h = h
  turn_one a (b ∷ bs) h = (link_snoc b a b bs h.0.1 h.0.0, apart_snoc (b ∷ bs) h.1.1 h.1.0)

  -- turned to x, which stands in the first part
  pub turn_to : (x : ℕ) (pre cs : List ℕ) → IsRing w (cs ++ pre) → Memᴰ x cs → (bs : List ℕ) × IsRing w (x ∷ bs) × Alike (cs ++ pre) (x ∷ bs)
  turn_to x pre [] h m = absurd (Memᴰ.not-nil m)
  turn_to x pre (a ∷ cs) h m =
      elim (Memᴰ.cases_cons m) [
        | inl e ↦ (cs ++ pre, rw e h, rw e (λ y k. k, λ y k. k))
        | inr k ↦
            let assoc : (cs ++ pre) ++ a ∷ [] ≡ cs ++ (pre ++ a ∷ []) = append_assoc cs pre (a ∷ []) in
            let t = turn_to x (pre ++ a ∷ []) cs (rw assoc at (turn_one a (cs ++ pre) h)) k in
            let one : Alike (a ∷ (cs ++ pre)) (cs ++ (pre ++ a ∷ [])) = rw assoc at (alike_one a (cs ++ pre)) in
            (t.0, t.1, (λ y j. t.2.0 y (one.0 y j), λ y j. one.1 y (t.2.1 y j)))
      ]

  -- the way from y to z that doesn't pass z is one only
  pub unique : (y z : ℕ) (ys bs : List ℕ) → Links w y ys z → ((u : ℕ) → Memᴰ u ys → u ≡ z → ⊥) → Links w y bs z →
      ((u : ℕ) → Memᴰ u bs → u ≡ z → ⊥) → ys ≡ bs
  unique x z [] [] h f g k = refl
  unique x z [] (b ∷ bs) h f g k = absurd (k b (Memᴰ.head refl) (for_same g.0 h))
  unique x z (y ∷ ys) [] h f g k = absurd (f y (Memᴰ.head refl) (for_same h.0 g))
  unique x z (y ∷ ys) (b ∷ bs) h f g k =
      let q : y ≡ b = for_same h.0 g.0 in
      let rest : ys ≡ bs = unique b z ys bs (rw q at h.1) (λ u m. f u (Memᴰ.tail m)) g.1 (λ u m. k u (Memᴰ.tail m)) in
      cc

  -- the rest of a way, from an engine that it passes
  suffix : (x z y : ℕ) (xs : List ℕ) → Links w x xs z → Memᴰ y xs →
      (bs : List ℕ) × Links w y bs z × (length bs < length xs) × ((u : ℕ) → Memᴰ u bs → Memᴰ u xs)
  suffix x z y [] h m = absurd (Memᴰ.not-nil m)
  suffix x z y (a ∷ cs) h m =
      elim (Memᴰ.cases_cons m) [
        | inl e ↦ (cs, rw e h.1, omega arith, λ u k. Memᴰ.tail k)
        | inr k ↦ let s = suffix a z y cs h.1 k in (s.0, s.1, omega (arith, s.2), λ u j. Memᴰ.tail (s.3 u j))
      ]

  -- a way that doesn't pass its end passes nobody twice
  pub way_apart : (z y : ℕ) (ys : List ℕ) → Links w y ys z → ((u : ℕ) → Memᴰ u ys → u ≡ z → ⊥) → Apart (y ∷ ys)
  way_apart z y [] h f = (λ m. Memᴰ.not-nil m, tt)
  way_apart z y (a ∷ cs) h f = (
    λ m.
        let s = suffix y z y (a ∷ cs) h m in
        let same : a ∷ cs ≡ s.0 = unique y z (a ∷ cs) s.0 h f s.1 (λ u k. f u (s.3 u k)) in
        let shorter : length s.0 < length (a ∷ cs) = s.2 in
        omega (arith, ap length same),
    way_apart z a cs h.1 (λ u m. f u (Memᴰ.tail m)),
  )

  -- everyone on a way waits
  pub way_waits : (x z y : ℕ) (xs : List ℕ) → Links w x xs z → Memᴰ y (x ∷ xs) → (u : ℕ) × (w y ≡ Some u)
  way_waits x z y [] h m = elim (Memᴰ.cases_cons m) [ inl e ↦ (z, rw e h) | inr k ↦ absurd (Memᴰ.not-nil k) ]
  way_waits x z y (a ∷ cs) h m = elim (Memᴰ.cases_cons m) [ inl e ↦ (a, rw e h.0) | inr k ↦ way_waits a z y cs h.1 k ]
