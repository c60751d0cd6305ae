-- A queue, and one number further: what is left to look at gives what all gives.
use Rattle.std.proofs.Common.{◌≡◌, ℕ, zero, suc, ◌+◌, ◌-◌, ◌<◌, eqb, Bool, ◌||◌, List, [], ◌∷◌, None, Option, refl, ap, arith}
use Rattle.sections.specs.Table.{is_in}
use Rattle.std.specs.List.{list_any}
use Rattle.port.specs.Walk.{first_from, or_else}

-- A QUEUE: who stands in it is one of the list
pub any_in : (e : ℕ) (q : List ℕ) → list_any (λ y. eqb y e) q ≡ is_in e q
any_in e [] = refl
any_in e (x ∷ q) = ap (λ (t : Bool). eqb x e || t) (any_in e q)

-- NUMBERS
module _ {A : Type 0} (f : ℕ → Option A) where
  pub first_on : (left n : ℕ) → 0 < left → first_from f left n ≡ or_else (f n) (first_from f (left - 1) (n + 1))
  unfolding first_from
  first_on zero n h = absurd (omega arith)
  first_on (suc left) n h = let q : suc left - 1 ≡ left = omega arith in rw q refl

  pub first_start : (end : ℕ) → first_from f (end - 0) 0 ≡ first_from f end 0
  first_start end = let q : end - 0 ≡ end = omega arith in rw q refl

  pub first_end : (left n : ℕ) → left ≡ 0 → first_from f left n ≡ None
  unfolding first_from
  first_end left n q = rw q refl
