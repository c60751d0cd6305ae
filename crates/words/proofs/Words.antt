-- What stands behind a word: all that it was put before, and nothing where it was not.
use Rattle.std.proofs.Common.{◌≡◌, ℕ, List, [], ◌∷◌, ◌++◌, Some, None, Option, sym, refl, inl, inr, Bor, MatchOption}
use Rattle.std.proofs.lemmas.Bool.{cases_eq, eq-eqb, ne_eqb}
use Rattle.std.specs.Option.{option_map}
use Rattle.words.specs.Words.{after_of}

pub after_front : (word rest : List ℕ) → after_of word (word ++ rest) ≡ Some rest
after_front [] rest = refl
after_front (w ∷ ws) rest = rw (eq-eqb w w refl) (after_front ws rest)

pub after_none : (word text : List ℕ) → ((rest : List ℕ) → text ≡ word ++ rest → ⊥) → after_of word text ≡ None
after_none [] text h = absurd (h text refl)
after_none (w ∷ ws) [] h = refl
after_none (w ∷ ws) (x ∷ xs) h =
    elim (cases_eq x w) [
      | inl e ↦ rw (eq-eqb x w e) (after_none ws xs (λ rest q. h rest (cc)))
      | inr n ↦ rw (ne_eqb x w n) refl
    ]

pub after_is : (word text : List ℕ) (r : Option (Bor (List ℕ))) → MatchOption r ((rest : List ℕ) → text ≡ word ++ rest → ⊥) (λ x. text ≡ word ++ x.now) → option_map (λ x. x.now) r ≡ after_of word text
after_is word text None h = sym (after_none word text h)
after_is word text (Some x) h = rw h (sym (after_front word x.now))
