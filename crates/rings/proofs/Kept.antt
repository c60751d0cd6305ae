-- While the engines of a ring keep their waits, the ring and its highest own sign are those of the beginning.
-- Assumes nothing.
use Rattle.std.proofs.Common.{◌≡◌, ℕ, ◌≤◌, eqb, sym, refl, ap, ◌∙◌, inl, inr, arith}
use Rattle.std.proofs.lemmas.Bool.{cases_eq, cond-true, cond-false, eq-eqb, ne_eqb}
use Rattle.signs.specs.Signs.{showing}
use Rattle.rings.specs.Net.{Net, with, Run, still, onward, Reach, Along, one, more, InRing, Highest}
use Rattle.rings.proofs.Tidy.{wait_of, count_of, own_of, shown_of}
use Rattle.rings.proofs.Stays.{Keeps, snoc}
use Rattle.rings.proofs.Covered.{Covered, below_highest}

-- all to whom waits lead from k keep theirs
abbrev pub Intact : Net → Net → ℕ → Type 0
Intact n m k = (l : ℕ) → Along n k l → Keeps n m l

pub keeps_on : (n m o : Net) (l : ℕ) → Keeps n m l → Keeps m o l → Keeps n o l
keeps_on n m o l a b = (b.0 ∙ a.0, b.1 ∙ a.1, b.2 ∙ a.2)

-- the same way is there afterwards
pub move : {n m : Net} {k x l : ℕ} → Intact n m k → Along n k x → Along n x l → Along m x l
move h p (one e) = one ((h _ p).0 ∙ e)
move h p (more y e a) = more y ((h _ p).0 ∙ e) (move h (snoc p e) a)

-- and no other
pub back : {n m : Net} {k x l : ℕ} → Intact n m k → Along n k x → Along m x l → Along n k l
back h p (one e) = snoc p (sym (h _ p).0 ∙ e)
back h p (more y e a) = back h (snoc p (sym (h _ p).0 ∙ e)) a

pub ring_moved : {n m : Net} {k : ℕ} → Intact n m k → InRing n k → InRing m k
ring_moved h ring = move h ring ring

pub highest_moved : {n m : Net} {k : ℕ} → Intact n m k → InRing n k → Highest n k k → Highest m k k
highest_moved h ring high l p = let q = back h ring p in omega (arith, high l q, (h l q).2, (h _ ring).2)

-- no sign that one of the ring shows or told is above the highest own sign
pub bound : {engines : ℕ} {n m : Net} {k l s : ℕ} → Reach engines m → Intact n m k → InRing n k → Highest n k k → Along n k l → Covered m s l →
    s ≤ (m.engine k).own
bound r h ring high p c = below_highest (ring_moved h ring) (highest_moved h ring high) (move h ring p) c

-- an engine with another sign shown keeps its wait
pub showing_keeps : (n : Net) (i s l : ℕ) → Keeps n (with i (showing (n.engine i) s) n) l
showing_keeps n i s l =
    elim (cases_eq l i) [
      | inl q ↦
          let e : (with i (showing (n.engine i) s) n).engine l ≡ showing (n.engine i) s = cond-true (eqb l i) _ _ (eq-eqb l i q) in
          (wait_of e ∙ ap (λ (x : ℕ). (n.engine x).wait) (sym q), count_of e ∙ ap (λ (x : ℕ). (n.engine x).count) (sym q), own_of e ∙ ap (λ (x : ℕ). (n.engine x).own) (sym q))
      | inr q ↦
          let e : (with i (showing (n.engine i) s) n).engine l ≡ n.engine l = cond-false (eqb l i) _ _ (ne_eqb l i q) in
          (wait_of e, count_of e, own_of e)
    ]

pub showing_shows : (n : Net) (i s : ℕ) → ((with i (showing (n.engine i) s) n).engine i).shown ≡ s
showing_shows n i s = shown_of (cond-true (eqb i i) (showing (n.engine i) s) (n.engine i) (eq-eqb i i refl))

pub append : {engines : ℕ} {n m o : Net} → Run engines n m → Run engines m o → Run engines n o
append a still = a
append a (onward b s) = onward (append a b) s
