-- Whoever shows or told the own sign of one that waits stands in a chain of waits that leads to that one; and none of the chain can let go before it.
-- Assumes nothing.
use Rattle.std.proofs.Common.{◌≡◌, ℕ, ◌%◌, ◌<◌, ◌≤◌, sym, refl, ap, ◌∙◌, inl, inr, arith, None, Some}
use mathlib.Core.List.Memᴰ
use mathlib.Core.List.{Memᴰ}
use Rattle.rings.specs.Net.{Tell, Net, start, Step, Reach, still, onward, Finds, Along, one, more}
use Rattle.rings.specs.Promise.{AlwaysReal, OnlyHighest, OneFinder}
use Rattle.rings.proofs.Did.{Did, same, began, left, heard, found, did, Said, said, for_same}
use Rattle.rings.proofs.Tidy.{Tidy, tidy, wait_of, shown_of, own_of}

-- from x waits lead to z, and all on the way show z's own sign or a higher one, and have lower ones of their own
pub data Relays (n : Net) (z : ℕ) : ℕ → Type 0 where
  here : Relays n z z
  via : {x : ℕ} (y : ℕ) → (n.engine x).wait ≡ Some y → (n.engine x).own < (n.engine z).own → (n.engine z).own ≤ (n.engine x).shown → Relays n z y →
      Relays n z x

relayer_waits : {n : Net} {z x v : ℕ} → (n.engine z).wait ≡ Some v → Relays n z x → (n.engine x).wait ≡ None → ⊥
relayer_waits w here f = cc
relayer_waits w (via y e lt le r) f = cc

-- what is at x: who shows or told z's own sign relays it
pub record Relayed (engines : ℕ) (n : Net) : Type 0 where
  pub shows : (z v : ℕ) → (n.engine z).wait ≡ Some v → (x : ℕ) → x < engines → (n.engine x).shown ≡ (n.engine z).own → Relays n z x
  pub told : (z v : ℕ) → (n.engine z).wait ≡ Some v → (t : Tell) → Memᴰ t n.sent → t.sign ≡ (n.engine z).own → Relays n z t.by

relayed_start : (engines : ℕ) → Relayed engines start
relayed_start engines =
    record { shows = λ z v w x h q. cc; told = λ z v w t h q. absurd (Memᴰ.not-nil h) }

-- z waits as before, or has begun in this step
data Since (engines : ℕ) (n m : Net) (z : ℕ) : Type 0 where
  before : (v : ℕ) → (n.engine z).wait ≡ Some v → (m.engine z).own ≡ (n.engine z).own → Since engines n m z
  now : z < engines → (n.engine z).shown < (m.engine z).own → (m.engine z).own % engines ≡ z → Since engines n m z

since : {engines : ℕ} {n m : Net} {z v : ℕ} → (m.engine z).wait ≡ Some v → Did engines n m z → Since engines n m z
since {v = v} w (same q) = before v (sym (wait_of q) ∙ w) (own_of q)
since w (began j u a b f up l q) = now a (rw (own_of q) up) (rw (own_of q) l)
since w (left j e f q) = cc (wait_of q)
since w (heard j s c e up q) = before j e (own_of q)
since w (found j f q) = cc (wait_of q)

module _ {engines : ℕ} {n m : Net} (order : Tidy engines n) (after : Tidy engines m) (old : Relayed engines n) (step : Step engines n m) where
  -- one more of the chain stays in it
  via_kept : {z x v : ℕ} (y : ℕ) → (n.engine z).wait ≡ Some v → (m.engine z).own ≡ (n.engine z).own → (n.engine x).wait ≡ Some y →
      (n.engine x).own < (n.engine z).own → (n.engine z).own ≤ (n.engine x).shown → Relays n z y → Relays m z y → Did engines n m x → Relays m z x
  via_kept y w o e lt le r k (same q) = via y (wait_of q ∙ e) (omega (arith, own_of q)) (omega (arith, shown_of q)) k
  via_kept y w o e lt le r k (began j u a b f up l q) = cc
  via_kept y w o e lt le r k (left j d f q) = absurd (relayer_waits w r (rw (for_same e d) f))
  via_kept y w o e lt le r k (heard j s c d up q) = via y (wait_of q ∙ e) (omega (arith, own_of q)) (omega (arith, shown_of q)) k
  via_kept y w o e lt le r k (found j f q) = absurd (omega (arith, f.2))

  kept : {z v : ℕ} → (n.engine z).wait ≡ Some v → (m.engine z).own ≡ (n.engine z).own → {x : ℕ} → Relays n z x → Relays m z x
  kept w o here = here
  kept w o (via {x = x} y e lt le r) = via_kept y w o e lt le r (kept w o r) (did step x)

  -- nobody shows or told a sign yet that is taken in this step
  fresh : (z s : ℕ) → (n.engine z).shown < s → s % engines ≡ z → s ≤ (n.engine (s % engines)).own → ⊥
  fresh z s up l h = let g : s ≤ (n.engine z).own = rw l at h in omega (arith, order.low z)

  shows_before : {z v x : ℕ} → (n.engine z).wait ≡ Some v → (m.engine z).own ≡ (n.engine z).own → x < engines →
      (m.engine x).shown ≡ (m.engine z).own → Did engines n m x → Relays m z x
  shows_before {z} {v} {x} w o h e (same q) = kept w o (old.shows z v w x h (sym (shown_of q) ∙ e ∙ o))
  shows_before {z} {v} {x} w o h e (began j u a b f up l q) =
      let k : x ≡ z = sym l ∙ ap (λ (s : ℕ). s % engines) (sym (shown_of q) ∙ e ∙ o) ∙ order.leaves z (order.waiter z v w).0 in rw k here
  shows_before {z} {v} {x} w o h e (left j d f q) = kept w o (old.shows z v w x h (sym (shown_of q) ∙ e ∙ o))
  shows_before {z} {v} {x} w o h e (heard j s c d up q) =
      via j (wait_of q ∙ d) (omega (arith, own_of q, shown_of q, order.low x)) (omega arith)
      (kept w o (old.told z v w _ c (sym (shown_of q) ∙ e ∙ o)))
  shows_before {z} {v} {x} w o h e (found j f q) = kept w o (old.shows z v w x h (sym (shown_of q) ∙ e ∙ o))

  shows_now : {z x : ℕ} → (n.engine z).shown < (m.engine z).own → (m.engine z).own % engines ≡ z → x < engines → (m.engine x).shown ≡ (m.engine z).own →
      Did engines n m x → Relays m z x
  shows_now {z} {x} up l h e (same q) = absurd (fresh z _ up l (rw (sym (shown_of q) ∙ e) at (order.kin x h)))
  shows_now {z} {x} up l h e (began j u a b f g k q) =
      let p : x ≡ z = sym k ∙ ap (λ (s : ℕ). s % engines) (sym (shown_of q) ∙ e) ∙ l in rw p here
  shows_now {z} {x} up l h e (left j d f q) = absurd (fresh z _ up l (rw (sym (shown_of q) ∙ e) at (order.kin x h)))
  shows_now {z} {x} up l h e (heard j s c d g q) = absurd (fresh z _ up l (rw (sym (shown_of q) ∙ e) at (order.kin_told _ c)))
  shows_now {z} {x} up l h e (found j f q) = absurd (fresh z _ up l (rw (sym (shown_of q) ∙ e) at (order.kin x h)))

  shows_kept : (z x : ℕ) → x < engines → (m.engine x).shown ≡ (m.engine z).own → Since engines n m z → Relays m z x
  shows_kept z x h e (before v w o) = shows_before w o h e (did step x)
  shows_kept z x h e (now a up l) = shows_now up l h e (did step x)

  told_kept : (z : ℕ) (t : Tell) → Said n m t → t.sign ≡ (m.engine z).own → Since engines n m z → Relays m z t.by
  told_kept z t (inl h) q (before v w o) = kept w o (old.told z v w t h (q ∙ o))
  told_kept z t (inl h) q (now a up l) = absurd (fresh z _ up l (rw q at (order.kin_told t h)))
  told_kept z t (inr h) q g = shows_kept z t.by (after.waiter t.to t.by h.1).1 (sym h.0 ∙ q) g

  relayed_kept : Relayed engines m
  relayed_kept =
      record {
        shows = λ z v w x h e. shows_kept z x h e (since w (did step z));
        told = λ z v w t h q. told_kept z t (said step t h) q (since w (did step z));
      }

pub relayed : {engines : ℕ} {n : Net} → Reach engines n → Relayed engines n
relayed still = relayed_start _
relayed (onward r s) = relayed_kept (tidy r) (tidy (onward r s)) (relayed r) s

-- the chain leads along waits, to z
pub relays_lead : {n : Net} {z x y : ℕ} → (n.engine x).wait ≡ Some y → Relays n z y → Along n x z
relays_lead w here = one w
relays_lead w (via {x = y} v e lt le r) = more y w (relays_lead e r)

-- who finds: the chain begins at the one for whom it waits
pub finder : {engines : ℕ} {n : Net} → Reach engines n → (i j : ℕ) → Finds n i j → Relays n i j
finder r i j f = (relayed r).told i j f.1 _ f.0 refl

pub is_real : AlwaysReal
is_real engines n r i j f = relays_lead f.1 (finder r i j f)

-- from the chain waits lead only into the chain
next_relays : {n : Net} {z x y v : ℕ} → (n.engine z).wait ≡ Some v → Relays n z v → (n.engine x).wait ≡ Some y → Relays n z x → Relays n z y
next_relays w c e here = rw (for_same e w) c
next_relays w c e (via u d lt le r) = rw (for_same e d) r

all_relay : {n : Net} {z v x l : ℕ} → (n.engine z).wait ≡ Some v → Relays n z v → Relays n z x → Along n x l → Relays n z l
all_relay w c r (one e) = next_relays w c e r
all_relay w c r (more y e a) = all_relay w c (next_relays w c e r) a

relayer_lower : {n : Net} {z x : ℕ} → Relays n z x → (n.engine x).own ≤ (n.engine z).own
relayer_lower here = omega arith
relayer_lower (via y e lt le r) = omega arith

pub only_highest : OnlyHighest
only_highest engines n r i j f l a = relayer_lower (all_relay f.1 (finder r i j f) here a)

-- one that relays the sign of another doesn't find
relayer_finds_not : {n : Net} {z x : ℕ} → Relays n z x → (n.engine x).shown ≡ (n.engine x).own → z ≡ x
relayer_finds_not here q = refl
relayer_finds_not (via y e lt le r) q = absurd (omega arith)

pub one_finder : OneFinder
one_finder engines n r i j k l f g a = relayer_finds_not (all_relay f.1 (finder r i j f) here a) g.2
