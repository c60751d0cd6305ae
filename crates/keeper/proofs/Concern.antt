-- A box is told exactly if it is the home of an engine concerned: of the holder, or of one found in the queue.
use Rattle.std.proofs.Common.{◌≡◌, ℕ, true, eqb, List, [], ◌∷◌, None, Some, refl, ap, ◌∙◌, inl, inr}
use Rattle.std.proofs.lemmas.Bool.{or_cases, or_left, or_right, eqb-true, eq-eqb}
use Rattle.messages.specs.declared.yard.Yard.{Yard}
use Rattle.sections.specs.Table.{Holder, Table, holder_at, is_in, queue_at}
use Rattle.keeper.specs.Homes.{Concerned, Concerns, home_of, home_of_any, home_of_holder, told_of}

module _ (y : Yard) (b : ℕ) where
  holder_found : (h : Holder) → home_of_holder y b h ≡ true → (e : ℕ) × (h ≡ Some e) × (home_of y e ≡ b)
  holder_found None t = cc
  holder_found (Some e) t = (e, refl, eqb-true (home_of y e) b t)

  holder_told_lem : (h : Holder) (e : ℕ) → h ≡ Some e → home_of y e ≡ b → home_of_holder y b h ≡ true
  holder_told_lem h e q r = ap (home_of_holder y b) q ∙ eq-eqb (home_of y e) b r

  any_found : (es : List ℕ) → home_of_any y b es ≡ true → (e : ℕ) × (is_in e es ≡ true) × (home_of y e ≡ b)
  any_found [] t = cc
  any_found (x ∷ xs) t =
      elim (or_cases (eqb (home_of y x) b) (home_of_any y b xs) t) [
        | inl q ↦ (x, or_left (eqb x x) (is_in x xs) (eq-eqb x x refl), eqb-true (home_of y x) b q)
        | inr q ↦ let f = any_found xs q in (f.0, or_right (eqb x f.0) (is_in f.0 xs) f.1, f.2)
      ]

  any_told : (es : List ℕ) (e : ℕ) → is_in e es ≡ true → home_of y e ≡ b → home_of_any y b es ≡ true
  any_told [] e w q = cc
  any_told (x ∷ xs) e w q =
      elim (or_cases (eqb x e) (is_in e xs) w) [
        | inl s ↦ or_left (eqb (home_of y x) b) (home_of_any y b xs) (eq-eqb (home_of y x) b (ap (home_of y) (eqb-true x e s) ∙ q))
        | inr s ↦ or_right (eqb (home_of y x) b) (home_of_any y b xs) (any_told xs e s q)
      ]

  pub concerns : (t : Table) (place : ℕ) → Concerns y b t place (told_of y b t place)
  concerns t place = (found, told)
    where
      found : told_of y b t place ≡ true → Concerned y b t place
      found r =
          elim (or_cases (home_of_holder y b (holder_at t place)) (home_of_any y b (queue_at t place)) r) [
            | inl q ↦ let f = holder_found (holder_at t place) q in (f.0, inl f.1, f.2)
            | inr q ↦ let f = any_found (queue_at t place) q in (f.0, inr f.1, f.2)
          ]

      told : Concerned y b t place → told_of y b t place ≡ true
      told (e, inl q, r) = or_left (home_of_holder y b (holder_at t place)) (home_of_any y b (queue_at t place)) (holder_told_lem (holder_at t place) e q r)
      told (e, inr q, r) = or_right (home_of_holder y b (holder_at t place)) (home_of_any y b (queue_at t place)) (any_told (queue_at t place) e q r)
