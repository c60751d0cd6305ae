-- Everyone in a ring waits for one who waits: so no step but a finding changes the wait, the count or the own sign of any of them.
-- Assumes nothing.
use Rattle.std.proofs.Common.{◌≡◌, ℕ, suc, ◌⊎◌, sym, refl, ap, ◌∙◌, inl, inr, None, Some}
use Rattle.rings.specs.Net.{Net, Step, Finds, Along, one, more, long, InRing}
use Rattle.rings.specs.Promise.{RingStays, OwnSigns, OnlyUp}
use Rattle.rings.proofs.Did.{Did, same, began, left, heard, found, did, for_same}
use Rattle.rings.proofs.Tidy.{tidy, wait_of, count_of, own_of, shown_rises}

-- one wait more at the end
pub snoc : {n : Net} {i j k : ℕ} → Along n i j → (n.engine j).wait ≡ Some k → Along n i k
snoc (one w) e = more _ w (one e)
snoc (more y w a) e = more y w (snoc a e)

pub long_snoc : {n : Net} {i j k : ℕ} (a : Along n i j) (e : (n.engine j).wait ≡ Some k) → long (snoc a e) ≡ suc (long a)
unfolding snoc
long_snoc (one w) e = refl
long_snoc (more y w a) e = ap suc (long_snoc a e)

-- one way after another
pub join : {n : Net} {i j k : ℕ} → Along n i j → Along n j k → Along n i k
join (one w) b = more _ w b
join (more y w a) b = more y w (join a b)

-- the rest of the way, after its first wait
pub rest : {n : Net} {i j k : ℕ} (a : Along n i k) → (n.engine i).wait ≡ Some j → ((j ≡ k) × (long a ≡ 1)) ⊎ ((b : Along n j k) × (long a ≡ suc (long b)))
rest (one w) e = inl (for_same e w, refl)
rest (more y w a) e = rw (for_same e w) (inr (a, refl))

-- the ring from its next engine on has as many waits
pub rotate : {n : Net} {i j : ℕ} (a : InRing n i) → (n.engine i).wait ≡ Some j → (b : InRing n j) × (long b ≡ long a)
rotate {n} {i} {j} a e =
    elim (rest a e) [
      | inl p ↦ (one (ap (λ (x : ℕ). (n.engine x).wait) p.0 ∙ e), sym p.1)
      | inr p ↦ (snoc p.0 e, long_snoc p.0 e ∙ sym p.1)
    ]

-- the ring from any of its engines on has as many waits
pub turn : {n : Net} {i l : ℕ} (a : InRing n i) → Along n i l → (b : InRing n l) × (long b ≡ long a)
turn a (one w) = rotate a w
turn a (more j w c) = let r : (b : InRing _ j) × (long b ≡ long a) = rotate a w in let t = turn r.0 c in (t.0, t.1 ∙ r.1)

-- in a ring waits lead back from wherever they led
pub home : {n : Net} {i l : ℕ} → InRing n i → Along n i l → Along n l i
home a (one w) = elim (rest a w) [ inl p ↦ rw p.0 a | inr p ↦ p.0 ]
home a (more j w c) =
    elim (rest a w) [ inl p ↦ rw (← p.0) (home (rotate a w).0 c) | inr p ↦ join (home (rotate a w).0 c) p.0 ]

-- whoever waits lead on from waits
pub waits : {n : Net} {i j : ℕ} → Along n i j → (n.engine i).wait ≡ None → ⊥
waits (one w) f = cc
waits (more y w a) f = cc

-- an engine's wait, its beginning and its own sign are as before
abbrev pub Keeps : Net → Net → ℕ → Type 0
Keeps n m x = ((m.engine x).wait ≡ (n.engine x).wait) × ((m.engine x).count ≡ (n.engine x).count) × ((m.engine x).own ≡ (n.engine x).own)

-- an engine finds in a step
abbrev pub FindsNow : Net → Net → ℕ → Type 0
FindsNow n m k = (j : ℕ) × Finds n k j × ((m.engine k).wait ≡ None)

one_keeps : {engines : ℕ} {n m : Net} {x y : ℕ} → (n.engine x).wait ≡ Some y → ((n.engine y).wait ≡ None → ⊥) → Did engines n m x → Keeps n m x ⊎ FindsNow n m x
one_keeps w h (same q) = inl (wait_of q, count_of q, own_of q)
one_keeps w h (began j u a b f up l q) = cc
one_keeps w h (left j v f q) = absurd (h (rw (for_same w v) f))
one_keeps w h (heard j s c v up q) = inl (wait_of q, count_of q, own_of q)
one_keeps w h (found j f q) = inr (j, f, wait_of q)

-- one in a ring keeps its wait, or finds
pub ringed_keeps : {engines : ℕ} {n m : Net} {x : ℕ} → Step engines n m → InRing n x → Keeps n m x ⊎ FindsNow n m x
ringed_keeps {engines} {n} {m} {x} step a = first a
  where
    first : {k : ℕ} → Along n x k → Keeps n m x ⊎ FindsNow n m x
    first (one {j = y} w) = one_keeps w (waits (rotate a w).0) (did step x)
    first (more y w b) = one_keeps w (waits (rotate a w).0) (did step x)

-- the way from one in a ring stays as it was, or somebody on it finds
way_kept : {engines : ℕ} {n m : Net} {i l : ℕ} → Step engines n m → InRing n i → Along n i l → Along m i l ⊎ ((k : ℕ) × InRing n k × ((i ≡ k) ⊎ Along n i k) × FindsNow n m k)
way_kept {i = i} step a (one w) =
    elim (ringed_keeps step a) [ inl e ↦ inl (one (e.0 ∙ w)) | inr f ↦ inr (i, a, inl refl, f) ]
way_kept {n = n} {m = m} {i = i} {l = l} step a (more j w b) =
    elim (ringed_keeps step a) [ inl e ↦ onwards (e.0 ∙ w) (way_kept step (rotate a w).0 b) | inr f ↦ inr (i, a, inl refl, f) ]
  where
    onwards : (m.engine i).wait ≡ Some j → Along m j l ⊎ ((k : ℕ) × InRing n k × ((j ≡ k) ⊎ Along n j k) × FindsNow n m k) →
        Along m i l ⊎ ((k : ℕ) × InRing n k × ((i ≡ k) ⊎ Along n i k) × FindsNow n m k)
    onwards e (inl c) = inl (more j e c)
    onwards e (inr f) = inr (f.0, f.1, inr (elim f.2 [ inl q ↦ one (w ∙ ap Some q) | inr c ↦ more j w c ]), f.3)

pub ring_stays : RingStays
ring_stays engines n m r step i a =
    elim (way_kept step a a) [
      | inl b ↦ inl b
      | inr f ↦ inr (f.0, f.3.0, elim f.2 [ inl q ↦ rw q f.1 | inr c ↦ c ], f.3.1, f.3.2)
    ]

pub own_signs : OwnSigns
own_signs engines n r i h = ((tidy r).leaves i h, (tidy r).low i)

pub only_up : OnlyUp
only_up engines n m r step i = shown_rises (did step i)
