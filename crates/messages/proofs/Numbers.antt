-- Four and eight bytes and the number that they write: a byte is a digit in base 256, split off one at a time.
use Rattle.std.proofs.Common.{◌≡◌, ℕ, ◌+◌, ◌*◌, ◌/◌, ◌%◌, ◌^◌, ◌<◌, [], ◌∷◌, sym, refl, ap, ◌∙◌, mod-eq_of_lt, arith, lit<}
use native.Mathlib.Nat.{div-div-eq-div-mul}
use Rattle.std.proofs.lemmas.Nat.{div-mul-add, mod-mul-add, div-add-mod', div_below}
use Rattle.messages.specs.Table.{four, eight}

-- the digit of n above w, where r is what stands below it and p what stands above
pub digit : (n w p x r : ℕ) → n ≡ (p * 256 + x) * w + r → r < w → x < 256 → n / w % 256 ≡ x
digit n w p x r is low small =
    ap (λ (k : ℕ). k / w % 256) is ∙ (ap (λ (k : ℕ). k % 256) (div-mul-add (p * 256 + x) w r low) ∙ mod-mul-add p 256 x small)

pub four_of : (a b c d : ℕ) → a < 256 → b < 256 → c < 256 → d < 256 → four (a * 16777216 + b * 65536 + c * 256 + d) ≡ a ∷ b ∷ c ∷ d ∷ []
four_of a b c d la lb lc ld =
    let n = a * 16777216 + b * 65536 + c * 256 + d in
    let e3 : n / 16777216 % 256 ≡ a = digit n 16777216 0 a (b * 65536 + c * 256 + d) (omega arith) (omega arith) la in
    let e2 : n / 65536 % 256 ≡ b = digit n 65536 a b (c * 256 + d) (omega arith) (omega arith) lb in
    let e1 : n / 256 % 256 ≡ c = digit n 256 (a * 256 + b) c d (omega arith) (omega arith) lc in
    let e0 : n % 256 ≡ d = ap (λ (k : ℕ). k % 256) (omega arith) ∙ mod-mul-add (a * 65536 + b * 256 + c) 256 d ld in
    cc

pub eight_of : (a b c d e f g h : ℕ) → a < 256 → b < 256 → c < 256 → d < 256 → e < 256 → f < 256 → g < 256 → h < 256
    → eight (a * 72057594037927936 + b * 281474976710656 + c * 1099511627776 + d * 4294967296 + e * 16777216 + f * 65536 + g * 256 + h) ≡ a ∷ b ∷ c ∷ d ∷ e ∷ f ∷ g ∷ h ∷ []
eight_of a b c d e f g h la lb lc ld le lf lg lh =
    let n = a * 72057594037927936 + b * 281474976710656 + c * 1099511627776 + d * 4294967296 + e * 16777216 + f * 65536 + g * 256 + h in
    let e7 : n / 72057594037927936 % 256 ≡ a = digit n 72057594037927936 (0) a (b * 281474976710656 + c * 1099511627776 + d * 4294967296 + e * 16777216 + f * 65536 + g * 256 + h) (omega arith) (omega arith) la in
    let e6 : n / 281474976710656 % 256 ≡ b = digit n 281474976710656 (a) b (c * 1099511627776 + d * 4294967296 + e * 16777216 + f * 65536 + g * 256 + h) (omega arith) (omega arith) lb in
    let e5 : n / 1099511627776 % 256 ≡ c = digit n 1099511627776 (a * 256 + b) c (d * 4294967296 + e * 16777216 + f * 65536 + g * 256 + h) (omega arith) (omega arith) lc in
    let e4 : n / 4294967296 % 256 ≡ d = digit n 4294967296 (a * 65536 + b * 256 + c) d (e * 16777216 + f * 65536 + g * 256 + h) (omega arith) (omega arith) ld in
    let e3 : n / 16777216 % 256 ≡ e = digit n 16777216 (a * 16777216 + b * 65536 + c * 256 + d) e (f * 65536 + g * 256 + h) (omega arith) (omega arith) le in
    let e2 : n / 65536 % 256 ≡ f = digit n 65536 (a * 4294967296 + b * 16777216 + c * 65536 + d * 256 + e) f (g * 256 + h) (omega arith) (omega arith) lf in
    let e1 : n / 256 % 256 ≡ g = digit n 256 (a * 1099511627776 + b * 4294967296 + c * 16777216 + d * 65536 + e * 256 + f) g (h) (omega arith) (omega arith) lg in
    let e0 : n % 256 ≡ h = ap (λ (k : ℕ). k % 256) (omega arith) ∙ mod-mul-add (a * 281474976710656 + b * 1099511627776 + c * 4294967296 + d * 16777216 + e * 65536 + f * 256 + g) 256 h lh in
    cc

-- a number above w, split at the next byte
step : (n w v : ℕ) → w * 256 ≡ v → n / w ≡ n / v * 256 + n / w % 256
step n w v is = sym (div-add-mod' (n / w) 256) ∙ ap (λ (k : ℕ). k * 256 + n / w % 256) (div-div-eq-div-mul n w 256 ∙ ap (λ (k : ℕ). n / k) is)

line4 : (n a b c x0 x1 x2 x3 : ℕ) → n ≡ a * 256 + x0 → a ≡ b * 256 + x1 → b ≡ c * 256 + x2 → x3 ≡ c
    → x3 * 16777216 + x2 * 65536 + x1 * 256 + x0 ≡ n
line4 n a b c x0 x1 x2 x3 p q r t = omega arith

pub four_back : (n : ℕ) → n < 2 ^ 32 → (n / 16777216 % 256) * 16777216 + (n / 65536 % 256) * 65536 + (n / 256 % 256) * 256 + n % 256 ≡ n
four_back n small =
    line4 n (n / 256) (n / 65536) (n / 16777216) (n % 256) (n / 256 % 256) (n / 65536 % 256) (n / 16777216 % 256)
    (sym (div-add-mod' n 256)) (step n 256 65536 refl) (step n 65536 16777216 refl) (mod-eq_of_lt (div_below n 16777216 256 (lit< tt) small))

line8 : (n q1 q2 q3 q4 q5 q6 q7 x0 x1 x2 x3 x4 x5 x6 x7 : ℕ) → n ≡ q1 * 256 + x0 → q1 ≡ q2 * 256 + x1 → q2 ≡ q3 * 256 + x2 → q3 ≡ q4 * 256 + x3 → q4 ≡ q5 * 256 + x4 → q5 ≡ q6 * 256 + x5 → q6 ≡ q7 * 256 + x6 → x7 ≡ q7
    → x7 * 72057594037927936 + x6 * 281474976710656 + x5 * 1099511627776 + x4 * 4294967296 + x3 * 16777216 + x2 * 65536 + x1 * 256 + x0 ≡ n
line8 n q1 q2 q3 q4 q5 q6 q7 x0 x1 x2 x3 x4 x5 x6 x7 p0 p1 p2 p3 p4 p5 p6 p7 = omega arith

pub eight_back : (n : ℕ) → n < 2 ^ 64 → (n / 72057594037927936 % 256) * 72057594037927936 + (n / 281474976710656 % 256) * 281474976710656 + (n / 1099511627776 % 256) * 1099511627776 + (n / 4294967296 % 256) * 4294967296 + (n / 16777216 % 256) * 16777216 + (n / 65536 % 256) * 65536 + (n / 256 % 256) * 256 + n % 256 ≡ n
eight_back n small =
    line8 n (n / 256) (n / 65536) (n / 16777216) (n / 4294967296) (n / 1099511627776) (n / 281474976710656) (n / 72057594037927936) (n % 256) (n / 256 % 256) (n / 65536 % 256) (n / 16777216 % 256) (n / 4294967296 % 256) (n / 1099511627776 % 256) (n / 281474976710656 % 256) (n / 72057594037927936 % 256)
    (sym (div-add-mod' n 256)) (step n 256 65536 refl) (step n 65536 16777216 refl) (step n 16777216 4294967296 refl) (step n 4294967296 1099511627776 refl) (step n 1099511627776 281474976710656 refl) (step n 281474976710656 72057594037927936 refl) (mod-eq_of_lt (div_below n 72057594037927936 256 (lit< tt) small))
