-- Two numbers that leave the same remainder are a multiple of the divisor apart: one at most a divisor above the sign shown is the lowest.
-- Assumes nothing.
use Rattle.std.proofs.Common.{◌≡◌, ℕ, ◌+◌, ◌*◌, ◌/◌, ◌%◌, ◌<◌, ◌≤◌, ap, ◌∙◌, inl, inr, mul-le-mul_right, add-mul, one-mul, div-add-mod', arith}
use Rattle.std.proofs.lemmas.Nat.{mod-mul-add, mod_below}
use Rattle.std.proofs.lemmas.Bool.{cases_lt, lt-ltb, le-ltb}
use Rattle.signs.specs.Signs.{next_own}
use Rattle.signs.specs.Lowest.{Lowest}

multiple :
    (k engines me shown : ℕ) → me < engines → shown < k * engines + me → k * engines + me ≤ shown + engines →
    Lowest shown me engines (k * engines + me)
multiple k engines me shown below above near =
    record {
      above = above;
      leaves = mod-mul-add k engines me below;
      lowest =
          λ other over leaves.
          elim (cases_lt (other / engines) k) [
            | inl fewer ↦
                let apart : (other / engines + 1) * engines ≤ k * engines = mul-le-mul_right engines (omega arith) in
                omega (arith, add-mul (other / engines) 1 engines, one-mul engines, div-add-mod' other engines)
            | inr enough ↦ omega (arith, mul-le-mul_right engines enough, div-add-mod' other engines)
          ];
    }

pub own_is_lowest : (shown me engines : ℕ) → me < engines → Lowest shown me engines (next_own shown me engines)
own_is_lowest shown me engines below =
    let q : ℕ = shown / engines in
    let whole : q * engines + shown % engines ≡ shown = div-add-mod' shown engines in
    let small : shown % engines < engines = mod_below shown engines (omega arith) in
    let more : (q + 1) * engines ≡ q * engines + engines = add-mul q 1 engines ∙ ap (λ (x : ℕ). q * engines + x) (one-mul engines) in
    elim (cases_lt (shown % engines) me) [
      | inl lower ↦
          let up : q * engines + me ≡ next_own shown me engines = rw (lt-ltb (shown % engines) me lower) (omega arith) in
          rw up at (multiple q engines me shown below (omega arith) (omega arith))
      | inr upper ↦
          let up : (q + 1) * engines + me ≡ next_own shown me engines = rw (le-ltb (shown % engines) me upper) (omega arith) in
          rw up at (multiple (q + 1) engines me shown below (omega arith) (omega arith))
    ]
