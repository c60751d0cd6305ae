-- Settling is a function: either there is an output more or there isn't.
use Rattle.std.proofs.Common.{◌≡◌, ℕ, refl, arith}
use Rattle.messages.specs.declared.yard.BoxNumber.{BoxNumber}
use Rattle.boxes.specs.Log.{Log}
use Rattle.boxes.specs.Model.{State}
use Rattle.box_run.specs.Own.{Settles, settled, next}

pub one_way : (own : BoxNumber) (n : ℕ) (p q r : State × Log) → Settles own n p q → Settles own n p r → q ≡ r
one_way own n p _ _ (settled a) (settled b) = refl
one_way own n p _ r (settled a) (next b t) = let no : ⊥ = omega arith in elim no [ ]
one_way own n p q _ (next a s) (settled b) = let no : ⊥ = omega arith in elim no [ ]
one_way own n p q r (next a s) (next b t) = one_way own _ _ q r s t
