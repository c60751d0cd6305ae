-- A line that does not begin with a word's bytes, or is not them, is none of the word's.
use Rattle.std.proofs.Common.{◌≡◌, ℕ, Bool, true, false, ◌&&◌, eqb, leb, List, [], ◌∷◌, length, get_or, take, sym, refl, ap, ◌∙◌, arith}
use Rattle.std.proofs.lemmas.Bool.{le-leb, ne_eqb}
use lib.Pointwise.{pointwise}
use Rattle.lines.specs.Lines.{is_second}

and_true : (t : Bool) → (t && true) ≡ t
and_true true = refl
and_true false = refl

-- five bytes that begin a list
abbrev pub begins : List ℕ → ℕ → ℕ → ℕ → ℕ → ℕ → Bool
begins xs a b c d e = leb 5 (length xs) && (eqb (get_or xs 0 0) a && (eqb (get_or xs 1 0) b && (eqb (get_or xs 2 0) c && (eqb (get_or xs 3 0) d && eqb (get_or xs 4 0) e))))

pub not_begun : (xs : List ℕ) (a b c d e : ℕ) → pointwise eqb (take 5 xs) (a ∷ b ∷ c ∷ d ∷ e ∷ []) ≡ false → begins xs a b c d e ≡ false
not_begun [] a b c d e h = refl
not_begun (x ∷ []) a b c d e h = refl
not_begun (x ∷ y ∷ []) a b c d e h = refl
not_begun (x ∷ y ∷ z ∷ []) a b c d e h = refl
not_begun (x ∷ y ∷ z ∷ v ∷ []) a b c d e h = refl
not_begun (x ∷ y ∷ z ∷ v ∷ w ∷ xs) a b c d e h =
    let n : leb 5 (length (x ∷ y ∷ z ∷ v ∷ w ∷ xs)) ≡ true = le-leb _ _ (omega arith) in
    let s = ap (λ (t : Bool). eqb x a && (eqb y b && (eqb z c && (eqb v d && t)))) (and_true (eqb w e)) in
    rw n (sym s ∙ h)

pub not_second : (xs : List ℕ) → pointwise eqb xs (115 ∷ 101 ∷ 99 ∷ 111 ∷ 110 ∷ 100 ∷ []) ≡ false → is_second xs ≡ false
not_second [] h = refl
not_second (x ∷ []) h = refl
not_second (x ∷ y ∷ []) h = refl
not_second (x ∷ y ∷ z ∷ []) h = refl
not_second (x ∷ y ∷ z ∷ v ∷ []) h = refl
not_second (x ∷ y ∷ z ∷ v ∷ w ∷ []) h = refl
not_second (x ∷ y ∷ z ∷ v ∷ w ∷ u ∷ []) h =
    sym (ap (λ (t : Bool). eqb x 115 && (eqb y 101 && (eqb z 99 && (eqb v 111 && (eqb w 110 && t))))) (and_true (eqb u 100))) ∙ h
not_second (x ∷ y ∷ z ∷ v ∷ w ∷ u ∷ k ∷ xs) h =
    let n : eqb (length (x ∷ y ∷ z ∷ v ∷ w ∷ u ∷ k ∷ xs)) 6 ≡ false = ne_eqb _ _ (omega arith) in
    rw n
