-- How words and numbers are read from a text's bytes. Assumes nothing.
use Rattle.std.specs.Prelude.{ℕ, ◌+◌, ◌-◌, ◌*◌, cond, ◌&&◌, List, [], ◌∷◌, length, take, drop, Some, None, Option, ◌==◌, nat_le, nat_lt}
use Rattle.std.specs.Option.{option_and_then, option_map}
use Rattle.std.specs.List.{position}

-- what stands behind a word that a text begins with
abbrev pub after_of : List ℕ → List ℕ → Option (List ℕ)
after_of [] text = Some text
after_of (w ∷ ws) [] = None
after_of (w ∷ ws) (x ∷ xs) = cond (x == w) (after_of ws xs) None

-- what stands before and behind the first such byte of a text
abbrev pub split_once : ℕ → List ℕ → Option (List ℕ × List ℕ)
split_once b xs = option_map (λ i. (take i xs, drop (i + 1) xs)) (position (λ x. x == b) xs)

-- a decimal digit's value
abbrev pub digit_of : ℕ → Option ℕ
digit_of c = cond (nat_le 48 c && nat_le c 57) (Some (c - 48)) None

-- a number with one more digit, below 2 to the 32nd
abbrev pub longer_of : ℕ → ℕ → Option ℕ
longer_of n c = option_and_then (λ d. cond (nat_lt (n * 10 + d) 4294967296) (Some (n * 10 + d)) None) (digit_of c)

abbrev pub digits_from : ℕ → List ℕ → Option ℕ
digits_from n [] = Some n
digits_from n (c ∷ cs) = option_and_then (λ m. digits_from m cs) (longer_of n c)

-- a number: digits, and nothing else
abbrev pub number_of : List ℕ → Option ℕ
number_of xs = cond (length xs == 0) None (digits_from 0 xs)

-- a number of one byte
abbrev pub small_number : List ℕ → Option ℕ
small_number xs = option_and_then (λ n. cond (nat_lt n 256) (Some n) None) (number_of xs)

-- a number of one or two digits
abbrev pub short_number : List ℕ → Option ℕ
short_number [] = None
short_number (a ∷ []) = digit_of a
short_number (a ∷ b ∷ []) = option_and_then (λ x. option_and_then (λ y. Some (x * 10 + y)) (digit_of b)) (digit_of a)
short_number (a ∷ b ∷ c ∷ more) = None
