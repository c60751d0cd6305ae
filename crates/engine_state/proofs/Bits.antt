-- To clear the bits of a mask: `n & !m` is n without the bits that it shares with m.
use Rattle.std.proofs.Common.{◌≡◌, ℕ, ◌+◌, ◌-◌, ◌%◌, ◌^◌, ◌<◌, min, sym, ap, ◌∙◌, arith, w64}
use Rattle.std.specs.Prelude.{bit_and, bit_xor}
use Rattle.std.specs.Int.{bit_at, bit_not}
use Rattle.std.proofs.lemmas.Nat.{and_le_l, xor_lt}
use Rattle.std.proofs.lemmas.Nat.Bits.{bit_at_and, bit_at_xor, bit_at_not, bit_at-lt, same_from_bits_below}

one_bit : (a b : ℕ) → a < 2 → b < 2 → min a (1 - b) ≡ (a + min a b) % 2
one_bit a b p q = omega (arith, p, q)

pub clears : (n m : ℕ) → n < 2 ^ 64 → m < 2 ^ 64 → bit_and n (bit_not w64 m) ≡ bit_xor n (bit_and n m)
clears n m p q =
    same_from_bits_below 64 (bit_and n (bit_not w64 m)) (bit_xor n (bit_and n m)) (omega (arith, p, and_le_l n (bit_not w64 m))) (xor_lt 64 n (bit_and n m) p (omega (arith, p, and_le_l n m)))
    (λ i h. bit_at_and n (bit_not w64 m) i ∙ ap (λ b. min (bit_at n i) b) (bit_at_not w64 m i q h) ∙ one_bit (bit_at n i) (bit_at m i) (bit_at-lt n i) (bit_at-lt m i) ∙ sym (bit_at_xor n (bit_and n m) i ∙ ap (λ b. (bit_at n i + b) % 2) (bit_at_and n m i)))
