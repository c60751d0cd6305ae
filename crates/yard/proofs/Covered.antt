-- A sign that an engine shows is none above all own signs along its waits, unless the waits end at one that waits no more.
-- Assumes nothing.
use Rattle.std.proofs.Common.{◌≡◌, ℕ, ◌≤◌, sym, refl, ap, ◌∙◌, inl, inr, arith}
use Rattle.yard.specs.Yard.{Mode, waiting, Engine, Yard, start, mode, shown, own, Told, Act, May, after}
use Rattle.yard.proofs.Views.{Did, nothing, asked, freed, began, heard, found, did, told_was}
use Rattle.yard.proofs.Places.{Placed, waiting≢asking, waiting≢freeing, waiting≢leaving}
use Rattle.yard.proofs.Signs.{Signed, own_rises}

abbrev pub Idle : Mode → Type 0
Idle o = (j s m : ℕ) → o ≡ waiting j s m → ⊥

-- from x along the waits, as the homes have them, one has an own sign that is v or more, or waits no more and shows v or more
pub data Covered (y : Yard) (v : ℕ) : ℕ → Type 0 where
  own_above : {x : ℕ} → v ≤ own y x → Covered y v x
  idle_above : {x : ℕ} → Idle (mode y x) → v ≤ shown y x → Covered y v x
  through : {x : ℕ} (j s m : ℕ) → mode y x ≡ waiting j s m → v ≤ shown y x → Covered y v j → Covered y v x

pub record AllCovered (y : Yard) : Type 0 where
  pub of_shown : (x : ℕ) → Covered y (shown y x) x
  pub of_told : (x c j v : ℕ) → Told y x c j v → Covered y v j

pub covered_start : AllCovered start
covered_start = record { of_shown = λ x. own_above (omega arith); of_told = λ x c j v m. elim m [ ] }

mode_is : {d e : Engine} → d ≡ e → d.mode ≡ e.mode
mode_is is = ap (λ (e : Engine). e.mode) is

own_is : {d e : Engine} → d ≡ e → d.own ≡ e.own
own_is is = ap (λ (e : Engine). e.own) is

shown_is : {d e : Engine} → d ≡ e → d.shown ≡ e.shown
shown_is is = ap (λ (e : Engine). e.shown) is

module _ {engines : ℕ} {y : Yard} (p : Placed engines y) (q : Signed engines y) (a : Act) (g : May engines y a) where
  -- who showed v or more and begins has an own sign above it; who only turns to another call is idle
  idle_did : {v x : ℕ} {e : Engine} → (after y a).engine x ≡ e → Did engines y a x e → Idle (mode y x) → v ≤ shown y x → Covered (after y a) v x
  idle_did is nothing i l = idle_above (λ j s m e. i j s m (sym (mode_is is) ∙ e)) (let w = shown_is is in omega arith)
  idle_did is (asked t h) i l = idle_above (λ j s m e. waiting≢asking e (mode_is is)) (let w = shown_is is in omega arith)
  idle_did is (freed t h) i l = idle_above (λ j s m e. waiting≢freeing e (mode_is is)) (let w = shown_is is in omega arith)
  idle_did is (began t j m u h b) i l = own_above (let w = own_is is in let n = h.3.0 in omega arith)
  idle_did is (heard j v h) i l = absurd (i _ _ _ h.1.1.1)
  idle_did is (found j t h z) i l = absurd (i _ _ _ h.1.1)

  through_did : {v x j s m : ℕ} {e : Engine} → (after y a).engine x ≡ e → Did engines y a x e → mode y x ≡ waiting j s m → v ≤ shown y x → Covered (after y a) v j → Covered (after y a) v x
  through_did is nothing n l c = through _ _ _ (mode_is is ∙ n) (let w = shown_is is in omega arith) c
  through_did is (asked t h) n l c = idle_above (λ j s m e. waiting≢asking e (mode_is is)) (let w = shown_is is in omega arith)
  through_did is (freed t h) n l c = idle_above (λ j s m e. waiting≢freeing e (mode_is is)) (let w = shown_is is in omega arith)
  through_did is (began t j m u h b) n l c = own_above (let w = own_is is in let k = h.3.0 in omega arith)
  through_did is (heard j v h) n l c = through _ _ _ (mode_is is ∙ n) (let w = shown_is is in let k = h.2 in omega arith) c
  through_did is (found j t h z) n l c = idle_above (λ j s m e. waiting≢leaving e (mode_is is)) (let w = shown_is is in omega arith)

  covered_after : {v x : ℕ} → Covered y v x → Covered (after y a) v x
  covered_after (own_above {x = x} l) = own_above (let up = own_rises p q (did engines y a g x) in omega arith)
  covered_after (idle_above {x = x} i l) = idle_did refl (did engines y a g x) i l
  covered_after (through {x = x} j s m e l c) = through_did refl (did engines y a g x) e l (covered_after c)

  shown_did : {x : ℕ} {e : Engine} → AllCovered y → (after y a).engine x ≡ e → Did engines y a x e → Covered (after y a) e.shown x
  shown_did {x} r is nothing = covered_after (r.of_shown x)
  shown_did {x} r is (asked t h) = covered_after (r.of_shown x)
  shown_did {x} r is (freed t h) = covered_after (r.of_shown x)
  shown_did {x} r is (began t j m u h b) = own_above (let w = own_is is in omega arith)
  shown_did {x} r is (heard j v h) = through _ _ _ (mode_is is ∙ h.1.1.1) (let w = shown_is is in omega arith) (covered_after (r.of_told x _ j v h.0))
  shown_did {x} r is (found j t h z) = covered_after (r.of_shown x)

  pub all_covered_after : AllCovered y → AllCovered (after y a)
  all_covered_after r =
      record {
        of_shown = λ x. shown_did r refl (did engines y a g x);
        of_told =
            λ x c j v t. elim (told_was engines y a g x c j v t)
            [ inl o ↦ covered_after (r.of_told x c j v o) | inr n ↦ covered_after (rw n.0 (r.of_shown j)) ];
      }
