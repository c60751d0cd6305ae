-- A line's step, by the word in front of its first blank.
use Rattle.std.proofs.Common.{◌≡◌, ◌≢◌, ℕ, suc, ◌+◌, true, false, cond, ◌&&◌, eqb, List, [], ◌∷◌, ◌++◌, length, take, drop, Some, None, Option, not, codes, sym, refl, ap, ◌∙◌, inl, inr, arith}
use Rattle.std.proofs.lemmas.Bool.{and_parts, cases_eq, cases_lt, eq-eqb, ne_eqb, lt-ltb, le-ltb}
use Rattle.std.specs.List.{list_all, position_or_len}
use Rattle.std.specs.Option.{option_map}
use Rattle.std.specs.Str.{bytes_eq}
use Rattle.messages.specs.Reading.{and_then}
use Rattle.words.specs.Words.{after_of, split_once}
use Rattle.world.specs.declared.step.Step.{Step}
use Rattle.rehearse.specs.Script.{cut_of, deliver_of, free_of, named, second_of, step_of, stop_of, take_of, worded}

-- the parts of a text that begins with the byte
split_here : (b x : ℕ) (xs : List ℕ) → x ≡ b → split_once b (x ∷ xs) ≡ Some ([], xs)
split_here b x xs e = rw (eq-eqb x b e, lt-ltb 0 (length (x ∷ xs)) (omega arith)) refl

parts_at : (x k : ℕ) (xs : List ℕ) → ◌≡◌ {A = Option (List ℕ × List ℕ)} (Some (take (1 + k) (x ∷ xs), drop (1 + k + 1) (x ∷ xs))) (Some (x ∷ take k xs, drop (k + 1) xs))
parts_at x k xs =
    let later : 1 + k + 1 ≡ suc (k + 1) = omega arith in
    let next : 1 + k ≡ suc k = omega arith in
    rw (later, next) refl

split_later : (b x : ℕ) (xs : List ℕ) → x ≢ b → split_once b (x ∷ xs) ≡ option_map (λ p. (x ∷ p.0, p.1)) (split_once b xs)
split_later b x xs n =
    let k = position_or_len (λ y. eqb y b) xs in
    elim (cases_lt k (length xs)) [
      | inl h ↦ rw (ne_eqb x b n, lt-ltb (1 + k) (length (x ∷ xs)) (omega arith), lt-ltb k (length xs) h) (parts_at x k xs)
      | inr h ↦ rw (ne_eqb x b n, le-ltb (1 + k) (length (x ∷ xs)) (omega arith), le-ltb k (length xs) h) refl
    ]

-- what stands behind a word, if the first part is that word
abbrev behind : List ℕ → Option (List ℕ × List ℕ) → Option (List ℕ)
behind word parts = and_then parts (λ p. cond (bytes_eq p.0 word) (Some p.1) None)

behind_none : (x : ℕ) (parts : Option (List ℕ × List ℕ)) → behind [] (option_map (λ p. (x ∷ p.0, p.1)) parts) ≡ None
behind_none x None = refl
behind_none x (Some p) = refl

behind_more : (x w : ℕ) (ws : List ℕ) (parts : Option (List ℕ × List ℕ)) → behind (w ∷ ws) (option_map (λ p. (x ∷ p.0, p.1)) parts) ≡ cond (eqb x w) (behind ws parts) None
behind_more x w ws None = elim (eqb x w) as (λ b. ◌≡◌ {A = Option (List ℕ)} None (cond b None None)) [ true ↦ refl | false ↦ refl ]
behind_more x w ws (Some p) = elim (eqb x w) as (λ b. cond (b && bytes_eq p.0 ws) (Some p.1) None ≡ cond b (cond (bytes_eq p.0 ws) (Some p.1) None) None) [ true ↦ refl | false ↦ refl ]

-- the letters of a word without a blank
blank_apart : (w : ℕ) (ws : List ℕ) → w ≡ 32 → list_all (λ c. not (eqb c 32)) (w ∷ ws) ≡ true → ⊥
blank_apart w ws e h =
    let first : not (eqb w 32) ≡ true = (and_parts _ _ h).0 in
    let differs : false ≡ true = rw (eq-eqb w 32 e) at first in
    cc

rest_apart : (w : ℕ) (ws : List ℕ) → list_all (λ c. not (eqb c 32)) (w ∷ ws) ≡ true → list_all (λ c. not (eqb c 32)) ws ≡ true
rest_apart w ws h = (and_parts _ _ h).1

-- a word with a blank behind it
after_word : (word xs : List ℕ) → list_all (λ c. not (eqb c 32)) word ≡ true → after_of (word ++ 32 ∷ []) xs ≡ behind word (split_once 32 xs)
after_word [] [] h = refl
after_word [] (x ∷ xs) h = elim (cases_eq x 32) [
  | inl e ↦ ap (λ b. cond b (Some xs) None) (eq-eqb x 32 e) ∙ sym (ap (behind []) (split_here 32 x xs e))
  | inr n ↦ ap (λ b. cond b (Some xs) None) (ne_eqb x 32 n) ∙ sym (ap (behind []) (split_later 32 x xs n) ∙ behind_none x (split_once 32 xs))
]
after_word (w ∷ ws) [] h = refl
after_word (w ∷ ws) (x ∷ xs) h =
    let apart : w ≢ 32 = λ e. blank_apart w ws e h in
    elim (cases_eq x 32) [
      | inl e ↦ ap (λ b. cond b (after_of (ws ++ 32 ∷ []) xs) None) (ne_eqb x w (λ q. apart (sym q ∙ e))) ∙ sym (ap (behind (w ∷ ws)) (split_here 32 x xs e))
      | inr n ↦ ap (λ o. cond (eqb x w) o None) (after_word ws xs (rest_apart w ws h)) ∙ sym (behind_more x w ws (split_once 32 xs)) ∙ sym (ap (behind (w ∷ ws)) (split_later 32 x xs n))
    ]

-- one word of a line, before all others
worded_at : (word : List ℕ) (parts : Option (List ℕ × List ℕ)) (f : List ℕ → Option Step) (rest : Option Step) (g : List ℕ × List ℕ → Option Step) → rest ≡ and_then parts g
    → worded (behind word parts) f rest ≡ and_then parts (λ p. cond (bytes_eq p.0 word) (f p.1) (g p))
worded_at word None f rest g q = q
worded_at word (Some p) f rest g q = elim (bytes_eq p.0 word) as (λ b. worded (cond b (Some p.1) None) f rest ≡ cond b (f p.1) (g p)) [ true ↦ refl | false ↦ q ]

peel : (word xs : List ℕ) (f : List ℕ → Option Step) (rest : Option Step) (g : List ℕ × List ℕ → Option Step) → list_all (λ c. not (eqb c 32)) word ≡ true → rest ≡ and_then (split_once 32 xs) g
    → worded (after_of (word ++ 32 ∷ []) xs) f rest ≡ and_then (split_once 32 xs) (λ p. cond (bytes_eq p.0 word) (f p.1) (g p))
peel word xs f rest g h q = ap (λ o. worded o f rest) (after_word word xs h) ∙ worded_at word (split_once 32 xs) f rest g q

no_word : (parts : Option (List ℕ × List ℕ)) → ◌≡◌ {A = Option Step} None (and_then parts (λ p. None))
no_word None = refl
no_word (Some p) = refl

pub step_by_word : (xs : List ℕ) → step_of xs ≡ and_then (split_once 32 xs) (λ p. named p.0 p.1)
step_by_word xs = peel (codes "take") xs take_of _ _ refl (peel (codes "free") xs free_of _ _ refl (peel (codes "deliver") xs deliver_of _ _ refl
    (peel (codes "cut") xs cut_of _ _ refl (peel (codes "second") xs second_of _ _ refl (peel (codes "stop") xs stop_of _ _ refl (no_word (split_once 32 xs)))))))
