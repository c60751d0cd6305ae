-- Until the ring is found its engines keep their waits, and each that the sign has come to shows it or a higher one: so it comes round as it was.
-- Assumes nothing.
use Rattle.std.proofs.Common.{◌≡◌, ℕ, ◌%◌, ◌<◌, ◌≤◌, ◌⊎◌, sym, refl, ap, ◌∙◌, inl, inr, arith, Some}
use mathlib.Core.List.{Memᴰ}
use Rattle.signs.specs.Signs.{showing}
use Rattle.rings.specs.Net.{Net, with, Came, Finds, Step, Run, onward, Reach, Along, one, more, InRing, Highest, FoundIn, Stage, shows, underway, Carried, opens, meanwhile, tell_on, heard, passed}
use Rattle.rings.specs.Promise.{FoundInAnyRun}
use Rattle.rings.proofs.Did.{did, stays_told}
use Rattle.rings.proofs.Tidy.{tidy, shown_rises}
use Rattle.rings.proofs.Relays.{only_highest}
use Rattle.rings.proofs.Stays.{Keeps, FindsNow, snoc, rotate, home, ringed_keeps}
use Rattle.rings.proofs.Covered.{covered, Each, each_in, ring_to}
use Rattle.rings.proofs.Kept.{Intact, keeps_on, move, ring_moved, highest_moved, bound, showing_keeps, showing_shows, append}

-- in a step every engine of a way in a ring keeps its wait, or one finds
each_keeps : {engines : ℕ} {n m : Net} {i l : ℕ} → Step engines n m → InRing n i → (a : Along n i l) →
    Each (λ x. Keeps n m x) a ⊎ ((f : ℕ) × ((i ≡ f) ⊎ Along n i f) × FindsNow n m f)
each_keeps {i = i} step ring (one w) =
    elim (ringed_keeps step ring) [ inl e ↦ inl e | inr f ↦ inr (i, inl refl, f) ]
each_keeps {n = n} {m = m} {i = i} {l = l} step ring (more j w b) =
    elim (ringed_keeps step ring) [ inl e ↦ onwards e (each_keeps step (rotate ring w).0 b) | inr f ↦ inr (i, inl refl, f) ]
  where
    onwards : Keeps n m i → Each (λ x. Keeps n m x) b ⊎ ((f : ℕ) × ((j ≡ f) ⊎ Along n j f) × FindsNow n m f) →
        Each (λ x. Keeps n m x) (more j w b) ⊎ ((f : ℕ) × ((i ≡ f) ⊎ Along n i f) × FindsNow n m f)
    onwards e (inl c) = inl (e, c)
    onwards e (inr f) = inr (f.0, inr (elim f.1 [ inl q ↦ one (w ∙ ap Some q) | inr c ↦ more j w c ]), f.2)

-- the whole ring is as before, or one of it finds
ring_keeps : {engines : ℕ} {n m : Net} {k : ℕ} → Step engines n m → InRing n k → Intact n m k ⊎ ((f : ℕ) × Along n k f × FindsNow n m f)
ring_keeps {n = n} {m = m} {k = k} step ring =
    elim (each_keeps step ring ring) [
      | inl e ↦ inl (λ l p. each_in (λ x. Keeps n m x) ring e p)
      | inr f ↦ inr (f.0, ring_to ring f.1, f.2)
    ]

-- who finds in a ring is the one with the highest own sign
finder_is : {engines : ℕ} {n : Net} {k f j : ℕ} → Reach engines n → InRing n k → Highest n k k → Along n k f → Finds n f j → f ≡ k
finder_is {engines} {n} {k} {f} {j} r ring high p found =
    let order = tidy r in
    let equal : (n.engine f).own ≡ (n.engine k).own =
    omega (arith, high f p, only_highest engines n r f j found k (home ring p))
    in
    sym (order.leaves f (order.waiter f j found.1).0) ∙ ap (λ (s : ℕ). s % engines) equal ∙ order.leaves k (below ring)
  where
    below : {l : ℕ} → Along n k l → k < engines
    below (one w) = ((tidy r).waiter _ _ w).0
    below (more y w a) = ((tidy r).waiter _ _ w).0

-- how far the sign has come, for an engine of the ring
abbrev At : Net → Net → ℕ → Stage → Type 0
At n m k (shows x) = Along n k x → (n.engine k).own ≤ (m.engine x).shown
At n m k (underway y x s) = Along n k y → ((n.engine k).own ≤ s) × Came m y x s × ((n.engine y).wait ≡ Some x)

module _ {engines : ℕ} {n : Net} (k : ℕ) (reach : Reach engines n) (ring : InRing n k) (high : Highest n k k) where
  -- while the ring is intact a step leaves the sign where it has come to, or lets it be shown by a higher one
  at_kept : {m o : Net} → Step engines m o → Intact n m k → Intact m o k → (g : Stage) → At n m k g → At n o k g
  at_kept step h after (shows x) here = λ p. omega (arith, here p, shown_rises (did step x))
  at_kept {m} {o} step h after (underway y x s) here =
      λ p. ((here p).0, rw (after y (move h ring p)).1 (stays_told step _ (here p).1), (here p).2)

  step_kept : {m o : Net} (r : Run engines n m) (s : Step engines m o) (g : Stage) → Intact n m k × At n m k g →
      FoundIn (onward r s) k ⊎ (Intact n o k × At n o k g)
  step_kept {m} {o} r s g h =
      elim (ring_keeps s (ring_moved h.0 ring)) [
        | inl after ↦ inr (λ l p. keeps_on n m o l (h.0 l p) (after l (move h.0 ring p)), at_kept s h.0 after g h.1)
        | inr f ↦
            let q : f.0 ≡ k =
            finder_is (append reach r) (ring_moved h.0 ring) (highest_moved h.0 ring high) f.1 f.2.1
            in
            inl (inr (f.2.0, rw q at f.2.1, rw q at f.2.2))
      ]

  -- the ring was found, or it is intact and the sign is where the run has brought it
  carried_at : {m : Net} {r : Run engines n m} {g : Stage} → Carried engines n k m r g → FoundIn r k ⊎ (Intact n m k × At n m k g)
  carried_at opens = inr (λ l p. (refl, refl, refl), λ p. (tidy reach).low k)
  carried_at (meanwhile {r = r} {g = g} c s) = elim (carried_at c) [ inl f ↦ inl (inl f) | inr h ↦ step_kept r s g h ]
  carried_at (tell_on {m = m} {j = j} c i w) =
      elim (carried_at c) [
        | inl f ↦ inl (inl f)
        | inr h ↦ inr (h.0, λ p. let e = sym (h.0 i p).0 ∙ w in (h.1 (snoc p e), Memᴰ.head refl, e))
      ]
  carried_at (heard {m = m} {i = i} {s = s} c came w up) =
      elim (carried_at c) [
        | inl f ↦ inl (inl f)
        | inr h ↦
            inr (
              λ l p. keeps_on n m (with i (showing (m.engine i) s) m) l (h.0 l p) (showing_keeps m i s l),
              λ p. rw (showing_shows m i s) (h.1 p).0,
            )
      ]
  carried_at (passed c le) = elim (carried_at c) [ inl f ↦ inl f | inr h ↦ inr (h.0, λ p. omega (arith, (h.1 p).0)) ]

pub found_in_any_run : FoundInAnyRun
found_in_any_run engines n reach k ring high m r j s c =
    elim (carried_at k reach ring high c) [
      | inl f ↦ inl f
      | inr h ↦
          let then = append reach r in
          let here = h.1 ring in
          let same : s ≡ (m.engine k).own =
          omega (arith, bound then h.0 ring high (one here.2) ((covered then).told _ here.1), here.0, (h.0 k ring).2)
          in
          inr (
            rw same at here.1,
            (h.0 k ring).0 ∙ here.2,
            omega (arith, bound then h.0 ring high ring ((covered then).shows k), (tidy then).low k),
          )
    ]
