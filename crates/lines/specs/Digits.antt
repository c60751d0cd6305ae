-- Digits, and the numbers and bytes that they write. Assumes nothing.
use Rattle.std.specs.Prelude.{ℕ, ◌+◌, ◌-◌, ◌*◌, ◌/◌, ◌%◌, ◌<◌, ◌≤◌, cond, ◌&&◌, List, [], ◌∷◌, length, Some, None, Option, nat_le, nat_lt, slice_index}
use Rattle.messages.specs.Reading.{and_then, unless}
use Rattle.lines.specs.declared.line.Number.{Number}

-- digits and small letters
abbrev pub hex_digit : ℕ → ℕ
hex_digit n = cond (nat_lt n 10) (48 + n) (87 + n)

-- a digit's value, of either case
abbrev pub hex_value : ℕ → Option ℕ
hex_value c = cond (nat_le 48 c && nat_le c 57) (Some (c - 48)) (cond (nat_le 97 c && nat_le c 102) (Some (c - 97 + 10)) (cond (nat_le 65 c && nat_le c 70) (Some (c - 65 + 10)) None))

-- two digits for each byte, the high one first
abbrev pub hex_of : List ℕ → List ℕ
hex_of [] = []
hex_of (b ∷ bs) = hex_digit (b / 16) ∷ hex_digit (b % 16) ∷ hex_of bs

-- the bytes that digits write, if there are two for each
abbrev pub bytes_in : List ℕ → Option (List ℕ)
bytes_in [] = Some []
bytes_in (a ∷ []) = None
bytes_in (a ∷ b ∷ cs) = and_then (hex_value a) (λ h. and_then (hex_value b) (λ l. and_then (bytes_in cs) (λ bs. Some ((h * 16 + l) ∷ bs))))

-- the same digits in capital letters
abbrev pub capital : ℕ → ℕ
capital c = cond (nat_le 97 c && nat_le c 102) (c - 32) c

abbrev pub capitals : List ℕ → List ℕ
capitals [] = []
capitals (c ∷ cs) = capital c ∷ capitals cs

-- a number below a hundred
abbrev pub decimal : ℕ → List ℕ
decimal n = cond (nat_lt n 10) ((48 + n) ∷ []) ((48 + n / 10) ∷ (48 + n % 10) ∷ [])

-- a decimal digit's value
abbrev pub digit_of : ℕ → Option ℕ
digit_of c = unless (nat_le 48 c && nat_le c 57) (Some (c - 48))

-- a digit, and one more where one follows
abbrev pub with_next : ℕ → Option ℕ → Number
with_next a None = record { value = a; width = 1 }
with_next a (Some b) = record { value = a * 10 + b; width = 2 }

-- the digit at the second place
abbrev pub next_of : List ℕ → Option ℕ
next_of xs = unless (nat_le 2 (length xs)) (digit_of (slice_index xs 1))

-- the number that a text begins with: of one digit, or of two
abbrev pub number_of : List ℕ → Option Number
number_of xs = unless (nat_le 1 (length xs)) (and_then (digit_of (slice_index xs 0)) (λ a. Some (with_next a (next_of xs))))

-- its digits are all there
abbrev pub Inside : List ℕ → Option Number → Type 0
Inside xs None = Unit {0}
Inside xs (Some n) = n.width ≤ length xs

-- a value, if there is one, is below n
abbrev pub Below : ℕ → Option ℕ → Type 0
Below n None = Unit {0}
Below n (Some v) = v < n

-- a second digit is below ten, and there are two
abbrev pub Next : List ℕ → Option ℕ → Type 0
Next xs None = Unit {0}
Next xs (Some v) = (v < 10) × (2 ≤ length xs)
