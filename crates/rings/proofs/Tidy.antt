-- Signs keep in order: own signs leave their engine's number, what is shown only rises, and no sign of an engine's number passes its own sign.
-- Assumes nothing.
use Rattle.std.proofs.Common.{◌≡◌, ℕ, ◌%◌, ◌<◌, ◌≤◌, sym, refl, ap, ◌∙◌, inl, inr, mod-eq_of_lt, arith, Some}
use mathlib.Core.List.Memᴰ
use mathlib.Core.List.{Memᴰ}
use Rattle.signs.specs.declared.Engine.{Engine}
use Rattle.rings.specs.Net.{Tell, Net, start, Step, Reach, still, onward}
use Rattle.rings.proofs.Did.{Did, same, began, left, heard, found, did, said, for_same}

-- equal engines have equal fields
pub wait_of : {a b : Engine} → a ≡ b → a.wait ≡ b.wait
wait_of q = ap (λ (e : Engine). e.wait) q

pub count_of : {a b : Engine} → a ≡ b → a.count ≡ b.count
count_of q = ap (λ (e : Engine). e.count) q

pub shown_of : {a b : Engine} → a ≡ b → a.shown ≡ b.shown
shown_of q = ap (λ (e : Engine). e.shown) q

pub own_of : {a b : Engine} → a ≡ b → a.own ≡ b.own
own_of q = ap (λ (e : Engine). e.own) q

pub record Tidy (engines : ℕ) (n : Net) : Type 0 where
  pub leaves : (i : ℕ) → i < engines → (n.engine i).own % engines ≡ i
  pub low : (i : ℕ) → (n.engine i).own ≤ (n.engine i).shown
  pub waiter : (i j : ℕ) → (n.engine i).wait ≡ Some j → (i < engines) × (j < engines)
  pub kin : (i : ℕ) → i < engines → (n.engine i).shown ≤ (n.engine ((n.engine i).shown % engines)).own
  pub kin_told : (t : Tell) → Memᴰ t n.sent → t.sign ≤ (n.engine (t.sign % engines)).own

pub shown_rises : {engines : ℕ} {n m : Net} {x : ℕ} → Did engines n m x → (n.engine x).shown ≤ (m.engine x).shown
shown_rises (same q) = omega (arith, shown_of q)
shown_rises (began j u a b w up l q) = omega (arith, shown_of q)
shown_rises (left j w f q) = omega (arith, shown_of q)
shown_rises (heard j s c w up q) = omega (arith, shown_of q)
shown_rises (found j f q) = omega (arith, shown_of q)

pub own_rises : {engines : ℕ} {n m : Net} {x : ℕ} → (n.engine x).own ≤ (n.engine x).shown → Did engines n m x → (n.engine x).own ≤ (m.engine x).own
own_rises h (same q) = omega (arith, own_of q)
own_rises h (began j u a b w up l q) = omega (arith, own_of q)
own_rises h (left j w f q) = omega (arith, own_of q)
own_rises h (heard j s c w up q) = omega (arith, own_of q)
own_rises h (found j f q) = omega (arith, own_of q)

tidy_start : (engines : ℕ) → Tidy engines start
tidy_start engines =
    record {
      leaves = λ i h. mod-eq_of_lt h;
      low = λ i. omega arith;
      waiter = λ i j w. cc;
      kin = λ i h. rw (mod-eq_of_lt h) (omega arith);
      kin_told = λ t h. absurd (Memᴰ.not-nil h);
    }

module _ {engines : ℕ} {n m : Net} (old : Tidy engines n) (step : Step engines n m) where
  leaves_kept : {i : ℕ} → i < engines → Did engines n m i → (m.engine i).own % engines ≡ i
  leaves_kept h (same q) = rw (own_of q) (old.leaves _ h)
  leaves_kept h (began j u a b w up l q) = rw (own_of q) l
  leaves_kept h (left j w f q) = rw (own_of q) (old.leaves _ h)
  leaves_kept h (heard j s c w up q) = rw (own_of q) (old.leaves _ h)
  leaves_kept h (found j f q) = rw (own_of q) (old.leaves _ h)

  low_kept : {i : ℕ} → Did engines n m i → (m.engine i).own ≤ (m.engine i).shown
  low_kept {i} (same q) = omega (arith, own_of q, shown_of q, old.low i)
  low_kept {i} (began j u a b w up l q) = omega (arith, own_of q, shown_of q)
  low_kept {i} (left j w f q) = omega (arith, own_of q, shown_of q, old.low i)
  low_kept {i} (heard j s c w up q) = omega (arith, own_of q, shown_of q, old.low i)
  low_kept {i} (found j f q) = omega (arith, own_of q, shown_of q, old.low i)

  waiter_kept : {i j : ℕ} → (m.engine i).wait ≡ Some j → Did engines n m i → (i < engines) × (j < engines)
  waiter_kept w (same q) = old.waiter _ _ (sym (wait_of q) ∙ w)
  waiter_kept w (began k u a b f up l q) = (a, rw (for_same w (wait_of q)) b)
  waiter_kept w (left k v f q) = cc (wait_of q)
  waiter_kept w (heard k s c v up q) = old.waiter _ _ (sym (wait_of q) ∙ w)
  waiter_kept w (found k f q) = cc (wait_of q)

  own_rose : (x : ℕ) → (n.engine x).own ≤ (m.engine x).own
  own_rose x = own_rises (old.low x) (did step x)

  -- a sign that was in order still is, since own signs only rise
  still_kin : (s r : ℕ) → s ≡ r → s ≤ (n.engine (s % engines)).own → r ≤ (m.engine (r % engines)).own
  still_kin s r q h = rw (← q) (omega (arith, own_rose (s % engines)))

  kin_kept : {i : ℕ} → i < engines → Did engines n m i → (m.engine i).shown ≤ (m.engine ((m.engine i).shown % engines)).own
  kin_kept {i} h (same q) = still_kin _ _ (sym (shown_of q)) (old.kin i h)
  kin_kept {i} h (began j u a b w up l q) = rw (shown_of q, l) (omega (arith, own_of q))
  kin_kept {i} h (left j w f q) = still_kin _ _ (sym (shown_of q)) (old.kin i h)
  kin_kept {i} h (heard j s c w up q) = still_kin _ _ (sym (shown_of q)) (old.kin_told _ c)
  kin_kept {i} h (found j f q) = still_kin _ _ (sym (shown_of q)) (old.kin i h)

  tidy_kept : Tidy engines m
  tidy_kept =
      record {
        leaves = λ i h. leaves_kept h (did step i);
        low = λ i. low_kept (did step i);
        waiter = λ i j w. waiter_kept w (did step i);
        kin = λ i h. kin_kept h (did step i);
        kin_told =
            λ t h.
            elim (said step t h) [
              | inl before ↦ still_kin _ _ refl (old.kin_told t before)
              | inr now ↦ rw now.0 (kin_kept (waiter_kept now.1 (did step t.to)).1 (did step t.by))
            ];
      }

pub tidy : {engines : ℕ} {n : Net} → Reach engines n → Tidy engines n
tidy still = tidy_start _
tidy (onward r s) = tidy_kept (tidy r) s
