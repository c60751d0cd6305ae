-- Bytes are read pair by pair: what is read and what is still to read stay together the same bytes.
use Rattle.std.proofs.Common.{◌≡◌, ℕ, zero, suc, ◌+◌, ◌*◌, ◌/◌, ◌%◌, ◌<◌, ◌≤◌, Bool, true, false, leb, List, [], ◌∷◌, ◌++◌, length, get_or, drop, Some, None, Option, sym, refl, ap, ◌∙◌, append-nil, arith}
use Rattle.std.specs.Simd.{first_chunks}
use Rattle.std.proofs.lemmas.Bool.{le-leb}
use Rattle.std.proofs.lemmas.List.{at_drop_all, at_drop_more}
use Rattle.std.proofs.lemmas.Bool.Decides.{nat_tests}
use Rattle.messages.specs.Reading.{and_then, unless}
use Rattle.lines.specs.Digits.{bytes_in, hex_value}
use Rattle.lines.specs.Lines.{message_in}

-- a byte of two digits, and the bytes behind it
abbrev pub pushed : Option ℕ → Option ℕ → Option (List ℕ) → Option (List ℕ)
pushed a b o = and_then a (λ h. and_then b (λ l. and_then o (λ bs. Some ((h * 16 + l) ∷ bs))))

-- the bytes that pairs of digits write
abbrev pub paired : List (List ℕ) → Option (List ℕ)
paired [] = Some []
paired (p ∷ ps) = pushed (hex_value (get_or p 0 0)) (hex_value (get_or p 1 0)) (paired ps)

even : (k : ℕ) (xs : List ℕ) → length xs ≡ k + k → paired (first_chunks 2 k xs) ≡ bytes_in xs
even zero [] h = refl
even zero (x ∷ xs) h = absurd (omega arith)
even (suc k) [] h = absurd (omega arith)
even (suc k) (x ∷ []) h = absurd (omega arith)
even (suc k) (x ∷ y ∷ xs) h = ap (λ (o : Option (List ℕ)). pushed (hex_value x) (hex_value y) o) (even k xs (omega arith))

pushed_none : (a b : Option ℕ) → pushed a b None ≡ None
pushed_none None b = refl
pushed_none (Some h) None = refl
pushed_none (Some h) (Some l) = refl

odd_none : (xs : List ℕ) → length xs % 2 ≡ 1 → bytes_in xs ≡ None
odd_none [] h = absurd (omega arith)
odd_none (x ∷ []) h = refl
odd_none (x ∷ y ∷ xs) h =
    ap (λ (o : Option (List ℕ)). pushed (hex_value x) (hex_value y) o) (odd_none xs (omega arith)) ∙ pushed_none (hex_value x) (hex_value y)

unless_none : (t : Bool) → unless {A = List ℕ} t None ≡ None
unless_none t = elim t as (λ (v : Bool). unless {A = List ℕ} v None ≡ None) [ true ↦ refl | false ↦ refl ]

pub none_odd : (xs : List ℕ) → length xs % 2 ≡ 1 → message_in xs ≡ None
none_odd xs h = ap (λ (o : Option (List ℕ)). unless (leb (length xs) 42) o) (odd_none xs h) ∙ unless_none (leb (length xs) 42)

pub in_pairs : (xs : List ℕ) (ps : List (List ℕ)) → ps ≡ first_chunks 2 (length xs / 2) xs → length xs % 2 ≡ 0 → length xs / 2 ≤ 21 → paired ps ≡ message_in xs
in_pairs xs ps is h n =
    ap paired is ∙ (even (length xs / 2) xs (omega arith) ∙ sym (ap (λ (t : Bool). unless t (bytes_in xs)) (le-leb (length xs) 42 (omega arith))))

-- what is read, with what has been read before it
abbrev pub joined : List ℕ → Option (List ℕ) → Option (List ℕ)
joined out None = None
joined out (Some bs) = Some (out ++ bs)

next_pair : (ps : List (List ℕ)) (i : ℕ) (d : List ℕ) → i < length ps
    → paired (drop i ps) ≡ pushed (hex_value (get_or (get_or ps i d) 0 0)) (hex_value (get_or (get_or ps i d) 1 0)) (paired (drop (i + 1) ps))
next_pair ps i d n = at_drop_more paired ps i d n

low_none : (a : Option ℕ) (o : Option (List ℕ)) → pushed a None o ≡ None
low_none None o = refl
low_none (Some h) o = refl

-- a digit that is none
pub none_high : (out : List ℕ) (ps : List (List ℕ)) (t : Option (List ℕ)) (i : ℕ) (d : List ℕ) → i < length ps → joined out (paired (drop i ps)) ≡ t
    → None ≡ hex_value (get_or (get_or ps i d) 0 0) → None ≡ t
none_high out ps t i d n inv p =
    sym (ap (λ (o : Option (List ℕ)). joined out o) (next_pair ps i d n ∙ ap (λ (a : Option ℕ). pushed a (hex_value (get_or (get_or ps i d) 1 0)) (paired (drop (i + 1) ps))) (sym p))) ∙ inv

pub none_low : (out : List ℕ) (ps : List (List ℕ)) (t : Option (List ℕ)) (i : ℕ) (d : List ℕ) → i < length ps → joined out (paired (drop i ps)) ≡ t
    → None ≡ hex_value (get_or (get_or ps i d) 1 0) → None ≡ t
none_low out ps t i d n inv p =
    let a : Option ℕ = hex_value (get_or (get_or ps i d) 0 0) in
    sym (ap (λ (o : Option (List ℕ)). joined out o)
    (next_pair ps i d n ∙ (ap (λ (b : Option ℕ). pushed a b (paired (drop (i + 1) ps))) (sym p) ∙ low_none a (paired (drop (i + 1) ps))))) ∙ inv

-- no pair is left
pub all_read : (out : List ℕ) (ps : List (List ℕ)) (t : Option (List ℕ)) (i : ℕ) → length ps ≤ i → joined out (paired (drop i ps)) ≡ t → Some out ≡ t
all_read out ps t i n inv =
    ap (λ (l : List ℕ). Some l) (sym (append-nil out)) ∙ (sym (ap (λ (o : Option (List ℕ)). joined out o) (at_drop_all paired ps i n)) ∙ inv)

pub none_long : (xs : List ℕ) → 21 < length xs / 2 → message_in xs ≡ None
none_long xs h = grind (arith, nat_tests)
