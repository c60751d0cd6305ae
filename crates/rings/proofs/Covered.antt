-- What an engine shows comes from an own sign as high, further along its waits, or from one that doesn't wait: in a ring, from an own sign of the ring.
-- Assumes nothing.
use Rattle.std.proofs.Common.{◌≡◌, ℕ, ◌≤◌, ◌⊎◌, refl, ap, ◌∙◌, inl, inr, arith, None, Some}
use mathlib.Core.List.Memᴰ
use mathlib.Core.List.{Memᴰ}
use Rattle.std.proofs.lemmas.Bool.{cases_lt}
use Rattle.rings.specs.Net.{Tell, Net, Step, Reach, still, onward, Along, one, more, InRing, Highest}
use Rattle.rings.proofs.Did.{Did, same, began, left, heard, found, did, said, for_same}
use Rattle.rings.proofs.Tidy.{Tidy, tidy, wait_of, shown_of, own_of, own_rises}
use Rattle.rings.proofs.Stays.{join, rotate, turn, waits}

pub data Covered (n : Net) (s : ℕ) : ℕ → Type 0 where
  by_own : {x : ℕ} → s ≤ (n.engine x).own → Covered n s x
  by_free : {x : ℕ} → (n.engine x).wait ≡ None → s ≤ (n.engine x).shown → Covered n s x
  by_next : {x : ℕ} (y : ℕ) → (n.engine x).wait ≡ Some y → s ≤ (n.engine x).shown → Covered n s y → Covered n s x

pub record AllCovered (n : Net) : Type 0 where
  pub shows : (x : ℕ) → Covered n (n.engine x).shown x
  pub told : (t : Tell) → Memᴰ t n.sent → Covered n t.sign t.by

module _ {engines : ℕ} {n m : Net} (order : Tidy engines n) (step : Step engines n m) where
  free_kept : {s x : ℕ} → (n.engine x).wait ≡ None → s ≤ (n.engine x).shown → Did engines n m x → Covered m s x
  free_kept f h (same q) = by_free (wait_of q ∙ f) (omega (arith, shown_of q))
  free_kept f h (began j u a b w up l q) = by_own (omega (arith, own_of q))
  free_kept f h (left j w g q) = cc
  free_kept f h (heard j s c w up q) = cc
  free_kept f h (found j g q) = cc (g.1)

  next_kept : {s x : ℕ} (y : ℕ) → (n.engine x).wait ≡ Some y → s ≤ (n.engine x).shown → Covered m s y → Did engines n m x → Covered m s x
  next_kept y w h c (same q) = by_next y (wait_of q ∙ w) (omega (arith, shown_of q)) c
  next_kept y w h c (began j u a b f up l q) = cc
  next_kept y w h c (left j v g q) = by_free (wait_of q) (omega (arith, shown_of q))
  next_kept y w h c (heard j s d v up q) = by_next y (wait_of q ∙ w) (omega (arith, shown_of q)) c
  next_kept y w h c (found j g q) = by_free (wait_of q) (omega (arith, shown_of q))

  kept : {s x : ℕ} → Covered n s x → Covered m s x
  kept (by_own {x = x} h) = by_own (omega (arith, own_rises (order.low x) (did step x)))
  kept (by_free {x = x} f h) = free_kept f h (did step x)
  kept (by_next {x = x} y w h c) = next_kept y w h (kept c) (did step x)

  module _ (old : AllCovered n) where
    shows_kept : {x : ℕ} → Did engines n m x → Covered m (m.engine x).shown x
    shows_kept {x} (same q) = rw (shown_of q) (kept (old.shows x))
    shows_kept {x} (began j u a b w up l q) = by_own (omega (arith, own_of q, shown_of q))
    shows_kept {x} (left j w g q) = rw (shown_of q) (kept (old.shows x))
    shows_kept {x} (heard j s c w up q) = by_next j (wait_of q ∙ w) (omega arith) (rw (shown_of q) (kept (old.told _ c)))
    shows_kept {x} (found j g q) = rw (shown_of q) (kept (old.shows x))

    covered-kept : AllCovered m
    covered-kept =
        record {
          shows = λ x. shows_kept (did step x);
          told =
              λ t h. elim (said step t h) [ inl before ↦ kept (old.told t before) | inr now ↦ rw now.0 (shows_kept (did step t.by)) ];
        }

pub covered : {engines : ℕ} {n : Net} → Reach engines n → AllCovered n
covered still = record { shows = λ x. by_own (omega arith); told = λ t h. absurd (Memᴰ.not-nil h) }
covered (onward r s) = covered-kept (tidy r) s (covered r)

-- in a ring it ends at an own sign of the ring
pub ringed_own : {n : Net} {s x : ℕ} → InRing n x → Covered n s x → (y : ℕ) × Along n x y × (s ≤ (n.engine y).own)
ringed_own {x = x} a (by_own h) = (x, a, h)
ringed_own a (by_free f h) = absurd (waits a f)
ringed_own a (by_next y w h c) = let r = ringed_own (rotate a w).0 c in (r.0, more y w r.1, r.2)

-- no sign that one in the ring shows or told is above the highest own sign of the ring
pub below_highest : {n : Net} {s i k l : ℕ} → InRing n i → Highest n i k → Along n i l → Covered n s l → s ≤ (n.engine k).own
below_highest a high p c =
    let r = ringed_own (turn a p).0 c in omega (arith, high r.0 (join p r.1))

-- what holds of each engine of a way but the last
abbrev pub Each : {n : Net} {i j : ℕ} → (ℕ → Type 0) → Along n i j → Type 0
Each P (one {i = i} w) = P i
Each P (more {i = i} j w a) = P i × Each P a

pub each_first : {n : Net} {i j : ℕ} (P : ℕ → Type 0) (a : Along n i j) → Each P a → P i
each_first P (one w) h = h
each_first P (more j w a) h = h.0

pub each_up : {n : Net} {i j : ℕ} (P Q : ℕ → Type 0) → ((x : ℕ) → P x → Q x) → (a : Along n i j) → Each P a → Each Q a
each_up P Q f (one {i = i} w) h = f i h
each_up P Q f (more {i = i} j w a) h = (f i h.0, each_up P Q f a h.1)

-- and so of all to whom waits lead, where the way comes back
each_reached : {n : Net} {i x y l : ℕ} (P : ℕ → Type 0) (ring : InRing n i) → Each P ring → x ≡ y → (a : Along n y i) → Each P a → Along n x l → P l
each_reached P ring h q (one w) g (one e) = rw (for_same (rw q at e) w) (each_first P ring h)
each_reached P ring h q (one w) g (more z e p) = each_reached P ring h (for_same (rw q at e) w) ring h p
each_reached P ring h q (more y w a) g (one e) = rw (for_same (rw q at e) w) (each_first P a g.1)
each_reached P ring h q (more y w a) g (more z e p) = each_reached P ring h (for_same (rw q at e) w) a g.1 p

pub each_in : {n : Net} {i l : ℕ} (P : ℕ → Type 0) (ring : InRing n i) → Each P ring → Along n i l → P l
each_in P ring h p = each_reached P ring h refl ring h p

pub ring_to : {n : Net} {i k : ℕ} → InRing n i → (i ≡ k) ⊎ Along n i k → Along n i k
ring_to ring (inl q) = rw (← q) ring
ring_to ring (inr p) = p

-- the highest own sign on a way
top : {n : Net} {i j : ℕ} (a : Along n i j) → (k : ℕ) × ((i ≡ k) ⊎ Along n i k) × Each (λ x. (n.engine x).own ≤ (n.engine k).own) a
top (one {i = i} w) = (i, inl refl, omega arith)
top {n} (more {i = i} j w a) = higher (top a)
  where
    higher : (k : ℕ) × ((j ≡ k) ⊎ Along n j k) × Each (λ x. (n.engine x).own ≤ (n.engine k).own) a →
        (k : ℕ) × ((i ≡ k) ⊎ Along n i k) × Each (λ x. (n.engine x).own ≤ (n.engine k).own) (more j w a)
    higher t =
        elim (cases_lt (n.engine t.0).own (n.engine i).own) [
          | inl up ↦ (i, inl refl, (omega arith, each_up _ _ (λ x h. omega arith) a t.2))
          | inr down ↦ (t.0, inr (elim t.1 [ inl q ↦ one (w ∙ ap Some q) | inr p ↦ more j w p ]), (down, t.2))
        ]

-- every ring has an engine with the highest own sign
pub highest : {n : Net} {i : ℕ} → InRing n i → (k : ℕ) × Along n i k × Highest n i k
highest {n} {i} ring =
    let t = top ring in
    (t.0, ring_to ring t.1, λ l p. each_in (λ x. (n.engine x).own ≤ (n.engine t.0).own) ring t.2 p)
