-- From the engine with the highest own sign its sign is told back along the waits, engine by engine, until it comes to that engine again.
-- Assumes nothing.
use Rattle.std.proofs.Common.{◌≡◌, ℕ, suc, sym, refl, ap, ◌∙◌, inl, inr, arith, Some}
use mathlib.Core.List.{Memᴰ}
use Rattle.std.proofs.lemmas.Bool.{cases_lt}
use Rattle.signs.specs.Signs.{showing}
use Rattle.rings.specs.Net.{Net, with, told, Came, Finds, tells, hears, onward, Reach, Along, one, more, long, InRing, Highest, Telling, none, tell, hear}
use Rattle.rings.specs.Promise.{AlwaysFound}
use Rattle.rings.proofs.Tidy.{tidy}
use Rattle.rings.proofs.Stays.{Keeps, snoc, turn, join}
use Rattle.rings.proofs.Covered.{covered, highest, below_highest}
use Rattle.rings.proofs.Kept.{keeps_on, bound, showing_keeps, showing_shows}

-- a net to which so many tellings lead, with all waits as before, and in which x shows the sign s
record Shows (engines : ℕ) (n : Net) (c x s : ℕ) : Type 0 where
  net : Net
  way : Telling n c net
  reach : Reach engines net
  keeps : (l : ℕ) → Keeps n net l
  shown : (net.engine x).shown ≡ s

-- what j tells i has come to i
came : (n : Net) (i j s : ℕ) → (n.engine j).shown ≡ s → Came (told n i j) i j s
came n i j s q = Memᴰ.head (ap (λ (t : ℕ). record { to = i; count = (n.engine i).count; by = j; sign = t }) (sym q))

module _ (engines : ℕ) (n : Net) (k : ℕ) (ring : InRing n k) (high : Highest n k k) where
  -- x shows the highest sign: one telling more, and y, who waits for x, shows it too
  on : {c x y : ℕ} → (n.engine y).wait ≡ Some x → Along n k y → Shows engines n c x (n.engine k).own → Shows engines n (suc c) y (n.engine k).own
  on {c} {x} {y} w p g =
      elim (cases_lt (g.net.engine y).shown (n.engine k).own) [
        | inl up ↦
            record {
              net = with y (showing (g.net.engine y) (n.engine k).own) (told g.net y x);
              way = hear (tell g.way y x waits) y x (n.engine k).own (came g.net y x _ g.shown) waits up;
              reach = onward (onward g.reach (tells g.net y x waits)) (hears (told g.net y x) y x _ (came g.net y x _ g.shown) waits up);
              keeps = λ l. keeps_on n (told g.net y x) (with y (showing (g.net.engine y) (n.engine k).own) (told g.net y x)) l (g.keeps l) (showing_keeps (told g.net y x) y (n.engine k).own l);
              shown = showing_shows (told g.net y x) y (n.engine k).own;
            }
        | inr there ↦
            record {
              net = told g.net y x;
              way = tell g.way y x waits;
              reach = onward g.reach (tells g.net y x waits);
              keeps = g.keeps;
              shown =
                  let low = bound g.reach (λ l q. g.keeps l) ring high p ((covered g.reach).shows y) in
                  omega (arith, (g.keeps k).2);
            }
      ]
    where
      waits : (g.net.engine y).wait ≡ Some x
      waits = (g.keeps y).0 ∙ w

  -- the sign goes back along a way of the ring that leads to k
  along : {y : ℕ} (a : Along n y k) → Along n k y → Shows engines n 0 k (n.engine k).own → Shows engines n (long a) y (n.engine k).own
  along (one w) p g = on w p g
  along (more x w a) p g = on w p (along a (snoc p w) g)

  -- the last telling, to k itself
  last : {c x : ℕ} → (n.engine k).wait ≡ Some x → Shows engines n c x (n.engine k).own →
      (j : ℕ) × (m : Net) × Telling n (suc c) m × Finds m k j × ((l : ℕ) → Keeps n m l)
  last {c} {x} w g =
      let low = bound g.reach (λ l q. g.keeps l) ring high ring ((covered g.reach).shows k) in (
        x,
        told g.net k x,
        tell g.way k x ((g.keeps k).0 ∙ w),
        (came g.net k x _ (g.shown ∙ sym (g.keeps k).2), (g.keeps k).0 ∙ w, omega (arith, (tidy g.reach).low k)),
        g.keeps,
      )

  round : {z : ℕ} (a : Along n z k) → z ≡ k → Shows engines n 0 k (n.engine k).own →
      (j : ℕ) × (m : Net) × Telling n (long a) m × Finds m k j × ((l : ℕ) → Keeps n m l)
  round (one w) q g = last (rw q at w) g
  round (more x w b) q g = last (rw q at w) (along b (one (rw q at w)) g)

pub is_found : AlwaysFound
is_found engines n r i ring =
    let h = highest ring in
    let k : ℕ = h.0 in
    let t = turn ring h.1 in
    let high : Highest n k k = λ l p. h.2 l (join h.1 p) in
    let start : Shows engines n 0 k (n.engine k).own =
    record {
      net = n;
      way = none;
      reach = r;
      keeps = λ l. (refl, refl, refl);
      shown = omega (arith, below_highest t.0 high t.0 ((covered r).shows k), (tidy r).low k);
    }
    in
    let f = round engines n k t.0 high t.0 refl start in
    (k, f.0, f.1, h.1, h.2, rw t.1 at f.2, f.3, f.4)
