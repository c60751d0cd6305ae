-- Queues as lists: who is in one that somebody joined or left, and that a queue of engines is never longer than 64.
use Rattle.std.proofs.Common.{◌≡◌, ℕ, zero, suc, ◌+◌, ◌<◌, ◌≤◌, true, false, not, ◌&&◌, ◌||◌, eqb, List, [], ◌∷◌, ◌++◌, Some, length, take, sym, refl, ap, ◌∙◌, inl, inr, arith}
use Rattle.std.proofs.lemmas.Bool.Decides.{nat_tests}
use Rattle.std.proofs.lemmas.Bool.{and_from, eqb-true, or_cases}
use Rattle.std.proofs.lemmas.List.{length-take-le}
use Rattle.sections.specs.Table.{first_of, is_in, rest_of, without}
use Rattle.sections.specs.Sound.{WaitersKnown, once}

pub is_in_push : (y e : ℕ) (xs : List ℕ) → is_in y (xs ++ e ∷ []) ≡ (eqb e y || is_in y xs)
is_in_push y e [] = grind (arith, nat_tests)
is_in_push y e (x ∷ xs) = let h = is_in_push y e xs in grind (arith, nat_tests)

pub is_in_without : (y e : ℕ) (xs : List ℕ) → is_in y (without e xs) ≡ (not (eqb e y) && is_in y xs)
is_in_without y e [] = grind (arith, nat_tests)
is_in_without y e (x ∷ xs) = let h = is_in_without y e xs in grind (arith, nat_tests)

-- nobody joins twice
pub once_push : (e : ℕ) (xs : List ℕ) → once xs ≡ true → is_in e xs ≡ false → once (xs ++ e ∷ []) ≡ true
once_push e [] o h = refl
once_push e (x ∷ xs) o h = let p = is_in_push x e xs in let q = once_push e xs in grind (arith, nat_tests)

pub once_without : (e : ℕ) (xs : List ℕ) → once xs ≡ true → once (without e xs) ≡ true
once_without e [] o = refl
once_without e (x ∷ xs) o = let p = is_in_without x e xs in let q = once_without e xs in grind (arith, nat_tests)

pub without_absent : (e : ℕ) (xs : List ℕ) → is_in e xs ≡ false → without e xs ≡ xs
without_absent e [] h = refl
without_absent e (x ∷ xs) h = let q = without_absent e xs in grind (arith, nat_tests)

-- the first leaves
pub without_first : (x : ℕ) (xs : List ℕ) → once (x ∷ xs) ≡ true → without x (x ∷ xs) ≡ xs
without_first x xs o = let q = without_absent x xs in grind (arith, nat_tests)

length_without : (e : ℕ) (xs : List ℕ) → once xs ≡ true → length xs ≤ length (without e xs) + 1
length_without e [] o = omega arith
length_without e (x ∷ xs) o = let q = length_without e xs in let r = without_absent e xs in grind (arith, nat_tests)

-- different numbers below n are at most n
pub at_most : (n : ℕ) (xs : List ℕ) → once xs ≡ true → ((y : ℕ) → is_in y xs ≡ true → y < n) → length xs ≤ n
at_most zero [] o h = omega arith
at_most zero (x ∷ xs) o h = let z : x < 0 = h x (grind (arith, nat_tests)) in omega arith
at_most (suc n) xs o h =
    let below : (y : ℕ) → is_in y (without n xs) ≡ true → y < n = λ y p. let q = is_in_without y n xs in let r = h y in grind (arith, nat_tests) in
    omega (arith, length_without n xs o, at_most n (without n xs) (once_without n xs o) below)

-- who isn't in an array's front of engines finds room behind it
pub room : (e n : ℕ) (xs : List ℕ) → n ≤ length xs → e < 64 → is_in e (take n xs) ≡ false → once (take n xs) ≡ true → WaitersKnown (take n xs) → n < 64
room e n xs fits below out o known =
    let each : (y : ℕ) → is_in y (e ∷ take n xs) ≡ true → y < 64 = λ y w. elim (or_cases (eqb e y) (is_in y (take n xs)) w) [ inl h ↦ rw (eqb-true e y h) at below | inr h ↦ known y h ] in
    omega (arith, at_most 64 (e ∷ take n xs) (and_from (not (is_in e (take n xs))) (once (take n xs)) (ap not out) o) each, length-take-le n xs fits)

pub first_is_in : (x : ℕ) (xs : List ℕ) → first_of xs ≡ Some x → is_in x xs ≡ true
first_is_in x [] h = cc
first_is_in x (y ∷ ys) h = let same : y ≡ x = cc in grind (arith, nat_tests)

-- without its first, the rest is left
pub without_its_first : (x : ℕ) (xs : List ℕ) → first_of xs ≡ Some x → once xs ≡ true → without x xs ≡ rest_of xs
without_its_first x [] h o = cc
without_its_first x (y ∷ ys) h o = let same : y ≡ x = cc in ap (λ z. without z (y ∷ ys)) (sym same) ∙ without_first y ys o
