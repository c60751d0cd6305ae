-- A text is its first line, up to the first newline, and the lines of what follows.
use Rattle.std.proofs.Common.{◌≡◌, ℕ, suc, ◌+◌, ◌<◌, Bool, true, false, not, cond, List, [], ◌∷◌, ◌++◌, Some, None, Option, length, take, drop, sym, refl, ap, ◌∙◌, inl, inr, arith, length-drop}
use Rattle.std.specs.Prelude.{◌==◌, nat_lt}
use Rattle.std.specs.Option.{option_map}
use Rattle.std.specs.List.{after_first, before_first, position, position_or_len}
use Rattle.std.proofs.lemmas.List.{drop_all, take_all}
use Rattle.std.proofs.lemmas.Bool.{cases_eq, eq-eqb, ltb-false, ltb-true, ne_eqb}
use Rattle.words.specs.Words.{split_once}
use Rattle.box_run.specs.Lines.{lines_in, longer}

-- the byte that ends a line
abbrev pub is_newline : ℕ → Bool
is_newline b = b == 10

-- a byte that is no newline belongs to the first line
more : (x : ℕ) (xs : List ℕ) → (x ≡ 10 → ⊥) → lines_in (x ∷ xs) ≡ longer x (lines_in xs)
more x xs n = ap (λ b. cond b ([] ∷ lines_in xs) (longer x (lines_in xs))) (ne_eqb x 10 n)

-- the first byte before the first line of the rest, or a newline
from_first : (x : ℕ) (xs : List ℕ) (b : Bool)
    → cond b ([] ∷ lines_in xs) (longer x (lines_in xs)) ≡ take (cond (not b) (1 + position_or_len is_newline xs) 0) (x ∷ xs) ∷ lines_in (drop (cond (not b) (1 + position_or_len is_newline xs) 0 + 1) (x ∷ xs))
from_first x xs true = refl
from_first x [] false = refl
from_first x (y ∷ ys) false =
    let e = position_or_len is_newline (y ∷ ys) in
    let one : 1 + e ≡ suc e = omega arith in
    let two : 1 + e + 1 ≡ suc (e + 1) = omega arith in
    ap (longer x) (from_first y ys (y == 10)) ∙ (ap (λ n. take n (x ∷ y ∷ ys) ∷ lines_in (drop (e + 1) (y ∷ ys))) (sym one) ∙ ap (λ n. take (1 + e) (x ∷ y ∷ ys) ∷ lines_in (drop n (x ∷ y ∷ ys))) (sym two))

-- a text is its first line, and the lines of what follows the newline
lines_first : (xs : List ℕ) → 0 < length xs → lines_in xs ≡ before_first is_newline xs ∷ lines_in (after_first is_newline xs)
lines_first [] some = let no : ⊥ = omega arith in elim no [ ]
lines_first (x ∷ xs) some = from_first x xs (x == 10)

found_at : (b : Bool) (p e : ℕ) → Some e ≡ cond b (Some p) None → (b ≡ true) × (e ≡ p)
found_at true p e q = (refl, cc)
found_at false p e q = let no : ⊥ = cc in elim no [ ]

found_nowhere : (b : Bool) (p : ℕ) → None ≡ cond b (Some p) None → b ≡ false
found_nowhere true p q = let no : ⊥ = cc in elim no [ ]
found_nowhere false p q = refl

abbrev cut_at : List ℕ → ℕ → List ℕ × List ℕ
cut_at xs i = (take i xs, drop (i + 1) xs)

both_of : Option (List ℕ × List ℕ) → List ℕ × List ℕ
both_of None = ([], [])
both_of (Some both) = both

-- where a text is cut at its first newline
parted : (xs before after : List ℕ) (p : Option ℕ) → ◌≡◌ {A = Option (List ℕ × List ℕ)} (Some (before, after)) (option_map (cut_at xs) p)
    → (e : ℕ) × (Some e ≡ p) × (before ≡ take e xs) × (after ≡ drop (e + 1) xs)
unfolding both_of
parted xs before after None q = let no : ⊥ = cc in elim no [ ]
parted xs before after (Some e) q = (e, refl, ap (λ o. (both_of o).0) q, ap (λ o. (both_of o).1) q)

unparted : (xs : List ℕ) (p : Option ℕ) → ◌≡◌ {A = Option (List ℕ × List ℕ)} None (option_map (cut_at xs) p) → None ≡ p
unparted xs None q = refl
unparted xs (Some e) q = let no : ⊥ = cc in elim no [ ]

pub less_follows : (xs before after : List ℕ) → ◌≡◌ {A = Option (List ℕ × List ℕ)} (Some (before, after)) (split_once 10 xs) → length after < length xs
less_follows xs before after q =
    let c = parted xs before after (position is_newline xs) q in
    let f = found_at (nat_lt (position_or_len is_newline xs) (length xs)) (position_or_len is_newline xs) c.0 c.1 in
    let within = ltb-true (position_or_len is_newline xs) (length xs) f.0 in
    omega (arith, within, f.1, ap length c.3, length-drop (c.0 + 1) xs)

pub ended_line : (xs before after : List ℕ) → ◌≡◌ {A = Option (List ℕ × List ℕ)} (Some (before, after)) (split_once 10 xs) → lines_in xs ≡ before ∷ lines_in after
ended_line xs before after q =
    let c = parted xs before after (position is_newline xs) q in
    let f = found_at (nat_lt (position_or_len is_newline xs) (length xs)) (position_or_len is_newline xs) c.0 c.1 in
    let within = ltb-true (position_or_len is_newline xs) (length xs) f.0 in
    lines_first xs (omega arith) ∙ (ap (λ n. take n xs ∷ lines_in (drop (n + 1) xs)) (sym f.1) ∙ (ap (λ l. l ∷ lines_in (drop (c.0 + 1) xs)) (sym c.2) ∙ ap (λ l. before ∷ lines_in l) (sym c.3)))

pub last_line : (xs : List ℕ) → 0 < length xs → None ≡ split_once 10 xs → lines_in xs ≡ xs ∷ []
last_line xs some q =
    let e = position_or_len is_newline xs in
    let past = ltb-false e (length xs) (found_nowhere (nat_lt e (length xs)) e (unparted xs (position is_newline xs) q)) in
    lines_first xs some ∙ (ap (λ l. l ∷ lines_in (drop (e + 1) xs)) (take_all e xs past) ∙ ap (λ l. xs ∷ lines_in l) (drop_all (e + 1) xs (omega arith)))

-- a text that ends in a newline has a first line
has_first : (a : List ℕ) → (l : List ℕ) × (ls : List (List ℕ)) × (lines_in (a ++ 10 ∷ []) ≡ l ∷ ls)
has_first [] = ([], [], refl)
has_first (x ∷ a) =
    let f = has_first a in
    elim (cases_eq x 10) [
      | inl q ↦ ([], lines_in (a ++ 10 ∷ []), ap (λ b. cond b ([] ∷ lines_in (a ++ 10 ∷ [])) (longer x (lines_in (a ++ 10 ∷ [])))) (eq-eqb x 10 q))
      | inr q ↦ (x ∷ f.0, f.1, more x (a ++ 10 ∷ []) q ∙ ap (longer x) f.2)
    ]

-- one byte more at the front stays in the first part
longer_first : (x : ℕ) (ls ms : List (List ℕ)) (l : List ℕ) (rest : List (List ℕ)) → ls ≡ l ∷ rest → longer x (ls ++ ms) ≡ longer x ls ++ ms
longer_first x ls ms l rest e = ap (λ (t : List (List ℕ)). longer x (t ++ ms)) e ∙ sym (ap (λ (t : List (List ℕ)). longer x t ++ ms) e)

pub cut_behind : (a b : List ℕ) → lines_in ((a ++ 10 ∷ []) ++ b) ≡ lines_in (a ++ 10 ∷ []) ++ lines_in b
cut_behind [] b = refl
cut_behind (x ∷ a) b =
    let f = has_first a in
    let whole = (a ++ 10 ∷ []) ++ b in
    let first = a ++ 10 ∷ [] in
    elim (cases_eq x 10) [
      | inl q ↦
          ap (λ t. cond t ([] ∷ lines_in whole) (longer x (lines_in whole))) (eq-eqb x 10 q)
          ∙ (ap (λ (t : List (List ℕ)). [] ∷ t) (cut_behind a b) ∙ sym (ap (λ t. cond t ([] ∷ lines_in first) (longer x (lines_in first)) ++ lines_in b) (eq-eqb x 10 q)))
      | inr q ↦
          more x whole q ∙ (ap (longer x) (cut_behind a b) ∙ (longer_first x (lines_in first) (lines_in b) f.0 f.1 f.2 ∙ sym (ap (λ (t : List (List ℕ)). t ++ lines_in b) (more x first q))))
    ]
