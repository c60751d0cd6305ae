-- A word as a set of places: what clearing one bit does to that bit.
use Rattle.std.proofs.Common.{◌≡◌, ℕ, ◌<◌, false, eqb, ap, ◌∙◌, arith}
use Rattle.std.specs.Prelude.{bit_and, bit_xor}
use Rattle.std.specs.Int.{bit_at}
use Rattle.std.proofs.lemmas.Nat.{one_shl}
use Rattle.std.proofs.lemmas.Nat.Bits.{bit_at_and, bit_at_xor, bit_at-lt, bit_at-pow_same}
use Rattle.engine_state.specs.Places.{bit, marked}

own_bit : (p : ℕ) → p < 64 → bit_at (bit p) p ≡ 1
own_bit p h = ap (λ n. bit_at n p) (one_shl p 64 h) ∙ bit_at-pow_same p

pub cleared : (word p : ℕ) → p < 64 → marked (bit_xor word (bit_and word (bit p))) p ≡ false
cleared word p h =
    let off : bit_at (bit_xor word (bit_and word (bit p))) p ≡ 0 =
    omega (arith, bit_at_xor word (bit_and word (bit p)) p, bit_at_and word (bit p) p, own_bit p h, bit_at-lt word p)
    in ap (λ n. eqb n 1) off
