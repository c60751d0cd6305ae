-- The rings that the search gives are all the rings there are, each once: a ring turned to its lowest engine is what the search from that engine gives.
-- Assumes nothing.
use Rattle.std.proofs.Common.{◌≡◌, ℕ, zero, suc, ◌<◌, ◌≤◌, eqb, ltb, ◌⊎◌, List, [], ◌∷◌, ◌++◌, length, Some, None, Option, sym, refl, ap, ◌∙◌, inl, inr, append-nil, arith}
use mathlib.Core.List.{Memᴰ}
use Rattle.std.proofs.lemmas.Bool.{cases_eq, cases_lt, cond_both, ltb-true}
use Rattle.signs.specs.Signs.{Wait}
use Rattle.signs.specs.declared.table.Engines.{Engines}
use Rattle.signs.specs.Table.{engine_at}
use Rattle.ring_search.specs.Chase.{chase}
use Rattle.ring_search.specs.Search.{Judged, wait_of, own_of, upward, best_of, judged, ring_at, more, rings_below}
use Rattle.ring_search.specs.Exactly.{Apart, IsRing, first_of, InOrder, Exactly}
use Rattle.ring_search.proofs.Lists.{mem_snoc, few, least}
use Rattle.ring_search.proofs.Turned.{Alike, turn_to, unique, way_apart, way_waits}
use Rattle.ring_search.proofs.Sound.{complete, RingFrom, ring_from}

mem_more : {r : Judged} (rs : List Judged) (o : Option Judged) → Memᴰ r (more rs o) → Memᴰ r rs ⊎ (o ≡ Some r)
mem_more rs None m = inl m
mem_more rs (Some q) m = elim (mem_snoc rs m) [ inl k ↦ inl k | inr e ↦ inr (ap Some (sym e)) ]

more_old : {r : Judged} (rs : List Judged) (o : Option Judged) → Memᴰ r rs → Memᴰ r (more rs o)
more_old rs None m = m
more_old rs (Some q) m = mathlib.Core.List.Memᴰ.append_left (q ∷ []) m

more_new : {r : Judged} (rs : List Judged) (o : Option Judged) → o ≡ Some r → Memᴰ r (more rs o)
more_new {r} rs o e = rw e (mathlib.Core.List.Memᴰ.append_right rs (mathlib.Core.List.Memᴰ.head refl))

order_snoc : (rs : List Judged) (q : Judged) → InOrder rs → ((r : Judged) → Memᴰ r rs → first_of r.engines < first_of q.engines) → InOrder (rs ++ q ∷ [])
order_snoc [] q h f = (λ p m. absurd (mathlib.Core.List.Memᴰ.not-nil m), tt)
order_snoc (r ∷ rs) q h f = (
  λ p m. elim (mem_snoc rs m) [ inl k ↦ h.0 p k | inr e ↦ rw e (f r (mathlib.Core.List.Memᴰ.head refl)) ],
  order_snoc rs q h.1 (λ p m. f p (mathlib.Core.List.Memᴰ.tail m)),
)

order_more : (rs : List Judged) (o : Option Judged) → InOrder rs → ((r q : Judged) → Memᴰ r rs → o ≡ Some q → first_of r.engines < first_of q.engines) →
    InOrder (more rs o)
order_more rs None h f = h
order_more rs (Some q) h f = order_snoc rs q h (λ r m. f r q m refl)

some_same : {A : Type 0} {a b : A} → Some a ≡ Some b → a ≡ b
some_same q = cc

module _ (w : ℕ → Wait) (own : ℕ → ℕ) where
  in_rings : (n : ℕ) (r : Judged) → Memᴰ r (rings_below w own n) → (e : ℕ) × (e < n) × (ring_at w own e ≡ Some r)
  unfolding rings_below
  in_rings zero r m = absurd (mathlib.Core.List.Memᴰ.not-nil m)
  in_rings (suc n) r m =
      elim (mem_more (rings_below w own n) (ring_at w own n) m) [
        | inl k ↦ let i = in_rings n r k in (i.0, omega (arith, i.1), i.2)
        | inr q ↦ (n, omega arith, q)
      ]

  rings_in : (n e : ℕ) (r : Judged) → e < n → ring_at w own e ≡ Some r → Memᴰ r (rings_below w own n)
  unfolding rings_below
  rings_in zero e r h q = absurd (omega arith)
  rings_in (suc n) e r h q =
      elim (cases_eq e n) [
        | inl same ↦ more_new (rings_below w own n) (ring_at w own n) (rw same at q)
        | inr other ↦
            more_old (rings_below w own n) (ring_at w own n)
            (rings_in n e r (elim (cases_lt e n) [ inl k ↦ k | inr k ↦ absurd (other (omega arith)) ]) q)
      ]

  first_is : {e : ℕ} {r : Judged} → RingFrom w own e r → first_of r.engines ≡ e
  first_is f = ap first_of f.engines

  in_order : (n : ℕ) → InOrder (rings_below w own n)
  unfolding rings_below
  in_order zero = tt
  in_order (suc n) =
      order_more (rings_below w own n) (ring_at w own n) (in_order n)
      (λ r q m e.
      let i = in_rings n r m in
      omega (arith, i.1, first_is (ring_from w own i.0 r i.2), first_is (ring_from w own n q e)))

  -- what the search gives from an engine is a ring
  is_ring : {e : ℕ} {r : Judged} → (f : RingFrom w own e r) → IsRing w (e ∷ f.rest)
  is_ring {e} f = (f.links, way_apart w e e f.rest f.links (λ u m q. omega (arith, f.above u m)))

  -- the ring of an engine, turned to another of it
  turned : (y : ℕ) (xs : List ℕ) → IsRing w xs → Memᴰ y xs → (bs : List ℕ) × IsRing w (y ∷ bs) × Alike xs (y ∷ bs)
  turned y xs h m =
      let t = turn_to w y [] xs (rw (append-nil xs) h) m in (t.0, t.1, rw (append-nil xs) at t.2)

  not_first : {y : ℕ} {bs : List ℕ} → Apart (y ∷ bs) → (u : ℕ) → Memᴰ u bs → u ≡ y → ⊥
  not_first h u m q = h.0 (rw q at m)

  -- the lower first engine is not above the other's, where an engine stands in both rings
  not_above : {e d y : ℕ} {r q : Judged} → RingFrom w own e r → RingFrom w own d q → Memᴰ y r.engines → Memᴰ y q.engines → e ≤ d
  not_above {e} {d} {y} f g m k =
      let t = turned y (e ∷ f.rest) (is_ring f) (rw f.engines at m) in
      let s = turned y (d ∷ g.rest) (is_ring g) (rw g.engines at k) in
      let same : s.0 ≡ t.0 =
      unique w y y s.0 t.0 s.1.0 (not_first s.1.1) t.1.0 (not_first t.1.1)
      in
      let there : Memᴰ d (y ∷ t.0) = rw same at (s.2.0 d (mathlib.Core.List.Memᴰ.head refl)) in
      elim (mathlib.Core.List.Memᴰ.cases_cons (t.2.1 d there)) [ inl p ↦ omega arith | inr p ↦ omega (arith, f.above d p) ]

  module _ (few-engines : (y u : ℕ) → w y ≡ Some u → y < 64) where
    -- a ring from its lowest engine on is what the search gives from there
    lowest-given : (x : ℕ) (bs : List ℕ) → IsRing w (x ∷ bs) → ((y : ℕ) → Memᴰ y bs → x < y) →
        (x < 64) × (chase eqb (upward w x) x 64 x [] ≡ Some (x ∷ bs))
    lowest-given x bs h above =
        let below : (y : ℕ) → Memᴰ y (x ∷ bs) → y < 64 =
        λ y m. let u = way_waits w x x y bs h.0 m in few-engines y u.0 u.1
        in
        let short : length (x ∷ bs) ≤ 64 = few 64 (x ∷ bs) h.1 below in
        (below x (mathlib.Core.List.Memᴰ.head refl), complete w x 64 x [] bs h.0 above (omega arith))

    given : (xs : List ℕ) → IsRing w xs → (y : ℕ) → Memᴰ y xs →
        (r : Judged) × Memᴰ r (rings_below w own 64) × Memᴰ y r.engines
    given [] h y m = absurd h
    given (a ∷ cs) h y m =
        let l = least a cs in
        let x : ℕ = l.0 in
        let t = turned x (a ∷ cs) h l.1 in
        let above : (u : ℕ) → Memᴰ u t.0 → x < u =
        λ u k.
        let low : x ≤ u = l.2 u (t.2.1 u (mathlib.Core.List.Memᴰ.tail k)) in
        elim (cases_lt x u) [ inl up ↦ up | inr down ↦ absurd (not_first t.1.1 u k (omega arith)) ]
        in
        let found = lowest-given x t.0 t.1 above in (
          record { engines = x ∷ t.0; finder = best_of own x (x ∷ t.0) },
          rings_in 64 x _ found.0 (ap (judged own x) found.1),
          t.2.0 y m,
        )

    pub exactly : Exactly w own (rings_below w own 64)
    exactly =
        record {
          rings =
              λ r m.
              let i = in_rings 64 r m in
              let f = ring_from w own i.0 r i.2 in
              (rw f.engines (is_ring f), rw f.engines f.above, f.high);
          all = given;
          once =
              λ r q m k y a b.
              let i = in_rings 64 r m in
              let j = in_rings 64 q k in
              let f = ring_from w own i.0 r i.2 in
              let g = ring_from w own j.0 q j.2 in
              let same : i.0 ≡ j.0 = omega (arith, not_above f g a b, not_above g f b a) in
              some_same (sym i.2 ∙ ap (ring_at w own) same ∙ j.2);
          ordered = in_order 64;
        }

waits_below : (t : Engines) (y u : ℕ) → wait_of t y ≡ Some u → y < 64
waits_below t y u =
    cond_both (ltb y 64) (engine_at t y).wait None (λ (v : Wait). v ≡ Some u → y < 64)
    (λ h q. ltb-true y 64 h)
    (λ h q. cc)

pub exactly_the_rings : (t : Engines) → Exactly (wait_of t) (own_of t) (rings_below (wait_of t) (own_of t) 64)
exactly_the_rings t = exactly (wait_of t) (own_of t) (waits_below t)
