-- A capital letter has the value of the small one, so two digits have the value of the two.
use Rattle.std.proofs.Common.{◌≡◌, ℕ, suc, leb, List, [], ◌∷◌, length, Option, refl, ap, ◌∙◌, arith}
use Rattle.std.proofs.lemmas.Bool.Decides.{nat_tests}
use Rattle.messages.specs.Reading.{unless}
use Rattle.lines.specs.Digits.{bytes_in, capital, capitals, hex_value}
use Rattle.lines.specs.Lines.{EitherCase}

capital_value : (c : ℕ) → hex_value (capital c) ≡ hex_value c
capital_value c = grind (arith, nat_tests)

capitals_length : (xs : List ℕ) → length (capitals xs) ≡ length xs
capitals_length [] = refl
capitals_length (x ∷ xs) = ap (λ (n : ℕ). suc n) (capitals_length xs)

capitals_bytes : (xs : List ℕ) → bytes_in (capitals xs) ≡ bytes_in xs
capitals_bytes [] = refl
capitals_bytes (a ∷ []) = refl
capitals_bytes (a ∷ b ∷ xs) = rw (capital_value a, capital_value b, capitals_bytes xs)

pub either_case : EitherCase
either_case xs =
    ap (λ (n : ℕ). unless (leb n 42) (bytes_in (capitals xs))) (capitals_length xs) ∙ ap (λ (o : Option (List ℕ)). unless (leb (length xs) 42) o) (capitals_bytes xs)
