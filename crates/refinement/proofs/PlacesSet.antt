-- A word's bits one by one: a section put into a set is in it, one taken out is not, and every other is in it as before.
use Rattle.std.proofs.Common.{◌≡◌, ℕ, suc, ◌+◌, ◌-◌, ◌/◌, ◌%◌, ◌^◌, ◌<◌, Bool, true, false, cond, eqb, ltb, ◌⊎◌, length, get_or, sym, refl, ap, ◌∙◌, subst, inl, inr, one-mul, arith, length-set, get_or-set_other, get_or-set_same}
use native.Mathlib.Nat.{div-eq_of_lt}
use lib.Bits.{bit_and, bit_or, bit_xor}
use Rattle.std.proofs.lemmas.Nat.{pow-add, pow_below, shl-shr, and_shr, or_shr, xor_shr, and_mod, or_mod, xor_mod, one_shl}
use Rattle.std.proofs.lemmas.Bool.{cases_eq, cases_order, cases_Bool, ltb-true, lt-ltb, and_parts, and_from, false≢true}
use Rattle.messages.specs.declared.yard.Section.{Section}
use Rattle.engine_state.specs.declared.places.Places.{Places}
use Rattle.engine_state.specs.Places.{fits, bit, marked, word_of, has_of, with_word, with_of, without_of}
use Rattle.home_laws.proofs.Words.{cleared}
use Rattle.refinement.specs.Placed.{number_of}

-- a bit is 0 or 1
bit_cases : (n : ℕ) → (n % 2 ≡ 0) ⊎ (n % 2 ≡ 1)
bit_cases n = elim (cases_eq (n % 2) 0) [ inl p ↦ inl p | inr p ↦ inr (omega arith) ]

own_bit : (p : ℕ) → 2 ^ p / 2 ^ p % 2 ≡ 1
own_bit p = ap (λ n. n / 2 ^ p % 2) (sym (one-mul (2 ^ p))) ∙ ap (λ n. n % 2) (shl-shr 1 p)

low_bit : (p q : ℕ) → p < q → 2 ^ p / 2 ^ q % 2 ≡ 0
low_bit p q l = ap (λ n. n % 2) (div-eq_of_lt (pow_below p q l))

high_bit : (q d : ℕ) → 2 ^ (suc d + q) / 2 ^ q % 2 ≡ 0
high_bit q d = ap (λ n. n / 2 ^ q % 2) (pow-add 2 (suc d) q) ∙ ap (λ n. n % 2) (shl-shr (2 ^ suc d) q) ∙ omega arith

other_bit : (p q : ℕ) → (p ≡ q → ⊥) → 2 ^ p / 2 ^ q % 2 ≡ 0
other_bit p q ne =
    elim (cases_order p q) [
      | inl e ↦ absurd (ne e)
      | inr o ↦ elim o [ inl l ↦ low_bit p q l | inr g ↦ (let e : p ≡ suc (p - suc q) + q = omega arith in ap (λ (n : ℕ). 2 ^ n / 2 ^ q % 2) e ∙ high_bit q (p - suc q)) ]
    ]

or_at : (word p q : ℕ) → p < 64 → bit_or word (bit p) / 2 ^ q % 2 ≡ bit_or (word / 2 ^ q % 2) (2 ^ p / 2 ^ q % 2)
or_at word p q h =
    ap (λ n. bit_or word n / 2 ^ q % 2) (one_shl p 64 h) ∙ ap (λ n. n % 2) (or_shr word (2 ^ p) q) ∙ or_mod (word / 2 ^ q) (2 ^ p / 2 ^ q) 1

off_at : (word p q : ℕ) → p < 64 → bit_xor word (bit_and word (bit p)) / 2 ^ q % 2 ≡ bit_xor (word / 2 ^ q % 2) (bit_and (word / 2 ^ q % 2) (2 ^ p / 2 ^ q % 2))
off_at word p q h =
    ap (λ n. bit_xor word (bit_and word n) / 2 ^ q % 2) (one_shl p 64 h) ∙ ap (λ n. n % 2) (xor_shr word (bit_and word (2 ^ p)) q ∙ ap (λ n. bit_xor (word / 2 ^ q) n) (and_shr word (2 ^ p) q)) ∙
    xor_mod (word / 2 ^ q) (bit_and (word / 2 ^ q) (2 ^ p / 2 ^ q)) 1 ∙ ap (λ n. bit_xor (word / 2 ^ q % 2) n) (and_mod (word / 2 ^ q) (2 ^ p / 2 ^ q) 1)

or_own : (a b : ℕ) → (a ≡ 0) ⊎ (a ≡ 1) → b ≡ 1 → eqb (bit_or a b) 1 ≡ true
or_own a b (inl p) q = rw (p, q) refl
or_own a b (inr p) q = rw (p, q) refl

or_none : (a b : ℕ) → (a ≡ 0) ⊎ (a ≡ 1) → b ≡ 0 → bit_or a b ≡ a
or_none a b (inl p) q = rw (p, q) refl
or_none a b (inr p) q = rw (p, q) refl

off_none : (a b : ℕ) → (a ≡ 0) ⊎ (a ≡ 1) → b ≡ 0 → bit_xor a (bit_and a b) ≡ a
off_none a b (inl p) q = rw p refl
off_none a b (inr p) q = rw (p, q) refl

-- a place put into a word is in it; every other is in it as before
set_own : (word p : ℕ) → p < 64 → marked (bit_or word (bit p)) p ≡ true
set_own word p h = ap (λ n. eqb n 1) (or_at word p p h) ∙ or_own (word / 2 ^ p % 2) (2 ^ p / 2 ^ p % 2) (bit_cases (word / 2 ^ p)) (own_bit p)

set_other : (word p q : ℕ) → p < 64 → (p ≡ q → ⊥) → marked (bit_or word (bit p)) q ≡ marked word q
set_other word p q h ne = ap (λ n. eqb n 1) (or_at word p q h ∙ or_none (word / 2 ^ q % 2) (2 ^ p / 2 ^ q % 2) (bit_cases (word / 2 ^ q)) (other_bit p q ne))

off_other : (word p q : ℕ) → p < 64 → (p ≡ q → ⊥) → marked (bit_xor word (bit_and word (bit p))) q ≡ marked word q
off_other word p q h ne = ap (λ n. eqb n 1) (off_at word p q h ∙ off_none (word / 2 ^ q % 2) (2 ^ p / 2 ^ q % 2) (bit_cases (word / 2 ^ q)) (other_bit p q ne))

-- two sections are the same by box and place
abbrev placed : ℕ → ℕ → Section
placed b p = record { keeper = record { 0 = b }; place = p }

placed_same : {a b p q : ℕ} → a ≡ b → p ≡ q → placed a p ≡ placed b q
placed_same e f = rw (e, f)

pub same_section_lem : {s t : Section} → s.keeper.0 ≡ t.keeper.0 → s.place ≡ t.place → s ≡ t
same_section_lem p q = placed_same p q

pub cases_section : (s t : Section) → (s ≡ t) ⊎ (s ≡ t → ⊥)
cases_section s t =
    elim (cases_eq s.keeper.0 t.keeper.0) [
      | inl p ↦ elim (cases_eq s.place t.place) [ inl q ↦ inl (same_section_lem p q) | inr n ↦ inr (λ e. n (ap (λ (x : Section). x.place) e)) ]
      | inr n ↦ inr (λ e. n (ap (λ (x : Section). x.keeper.0) e))
    ]

pub same_number : (s t : Section) → s.place < 64 → t.place < 64 → number_of s ≡ number_of t → s ≡ t
same_number s t a b e = same_section_lem (omega arith) (omega arith)

-- what a section of the yard's sizes is
pub fits_parts : (s : Section) → fits s ≡ true → (s.keeper.0 < 16) × (s.place < 64)
fits_parts s e = let p = and_parts (ltb s.keeper.0 16) (ltb s.place 64) e in (ltb-true s.keeper.0 16 p.0, ltb-true s.place 64 p.1)

pub fits_from : (s : Section) → s.keeper.0 < 16 → s.place < 64 → fits s ≡ true
fits_from s a b = and_from (ltb s.keeper.0 16) (ltb s.place 64) (lt-ltb s.keeper.0 16 a) (lt-ltb s.place 64 b)

pub has_fits : (x : Places) (s : Section) → has_of x s ≡ true → fits s ≡ true
has_fits x s h = go (fits s) h
  where
    go : (t : Bool) → cond t (marked (word_of x s) s.place) false ≡ true → t ≡ true
    go true h = refl
    go false h = absurd (false≢true h)

pub has_marked : (x : Places) (s : Section) → has_of x s ≡ true → marked (word_of x s) s.place ≡ true
has_marked x s h = go (fits s) h
  where
    go : (t : Bool) → cond t (marked (word_of x s) s.place) false ≡ true → marked (word_of x s) s.place ≡ true
    go true h = h
    go false h = absurd (false≢true h)

pub marked_has : (x : Places) (s : Section) → fits s ≡ true → marked (word_of x s) s.place ≡ true → has_of x s ≡ true
marked_has x s f m = rw f m

-- the sets have sixteen words
pub with_wide : (x : Places) (s : Section) → length x.words ≡ 16 → length (with_of x s).words ≡ 16
with_wide x s wide = go (fits s)
  where
    go : (t : Bool) → length (cond t (with_word x s (bit_or (word_of x s) (bit s.place))) x).words ≡ 16
    go true = length-set x.words s.keeper.0 _ ∙ wide
    go false = wide

pub without_wide : (x : Places) (s : Section) → length x.words ≡ 16 → length (without_of x s).words ≡ 16
without_wide x s wide = go (fits s)
  where
    go : (t : Bool) → length (cond t (with_word x s (bit_xor (word_of x s) (bit_and (word_of x s) (bit s.place)))) x).words ≡ 16
    go true = length-set x.words s.keeper.0 _ ∙ wide
    go false = wide

-- the word of a section, after a change of the word of another section's box
word_own : (x : Places) (s t : Section) (word : ℕ) → length x.words ≡ 16 → fits s ≡ true → t.keeper.0 ≡ s.keeper.0 → word_of (with_word x s word) t ≡ word
word_own x s t word wide f e = rw e (get_or-set_same x.words s.keeper.0 word 0 (omega (arith, wide, fits_parts s f)))

word_other : (x : Places) (s t : Section) (word : ℕ) → (t.keeper.0 ≡ s.keeper.0 → ⊥) → word_of (with_word x s word) t ≡ word_of x t
word_other x s t word ne = get_or-set_other x.words s.keeper.0 t.keeper.0 word 0 ne

-- what a change of one word leaves: every other place of that word is marked as before
marks_other :
    (x : Places) (s t : Section) (word : ℕ) → length x.words ≡ 16 → fits s ≡ true → (t ≡ s → ⊥) →
    ((q : ℕ) → (s.place ≡ q → ⊥) → marked word q ≡ marked (word_of x s) q) → marked (word_of (with_word x s word) t) t.place ≡ marked (word_of x t) t.place
marks_other x s t word wide f ne same =
    elim (cases_eq t.keeper.0 s.keeper.0) [
      | inl e ↦ ap (λ n. marked n t.place) (word_own x s t word wide f e) ∙ same t.place (λ q. ne (same_section_lem e (sym q))) ∙ ap (λ n. marked (get_or x.words n 0) t.place) (sym e)
      | inr n ↦ ap (λ n. marked n t.place) (word_other x s t word n)
    ]

-- a set with a section more, or less, as both its cases
with_is : (x : Places) (s : Section) → fits s ≡ true → with_of x s ≡ with_word x s (bit_or (word_of x s) (bit s.place))
with_is x s f = rw f

with_not : (x : Places) (s : Section) → fits s ≡ false → with_of x s ≡ x
with_not x s f = rw f

without_is : (x : Places) (s : Section) → fits s ≡ true → without_of x s ≡ with_word x s (bit_xor (word_of x s) (bit_and (word_of x s) (bit s.place)))
without_is x s f = rw f

without_not : (x : Places) (s : Section) → fits s ≡ false → without_of x s ≡ x
without_not x s f = rw f

with_marks : (x : Places) (s t : Section) → length x.words ≡ 16 → (t ≡ s → ⊥) → marked (word_of (with_of x s) t) t.place ≡ marked (word_of x t) t.place
with_marks x s t wide ne =
    elim (cases_Bool (fits s)) [
      | inl f ↦ ap (λ (y : Places). marked (word_of y t) t.place) (with_is x s f) ∙ marks_other x s t _ wide f ne (λ q n. set_other (word_of x s) s.place q (fits_parts s f).1 n)
      | inr f ↦ ap (λ (y : Places). marked (word_of y t) t.place) (with_not x s f)
    ]

without_marks : (x : Places) (s t : Section) → length x.words ≡ 16 → (t ≡ s → ⊥) → marked (word_of (without_of x s) t) t.place ≡ marked (word_of x t) t.place
without_marks x s t wide ne =
    elim (cases_Bool (fits s)) [
      | inl f ↦ ap (λ (y : Places). marked (word_of y t) t.place) (without_is x s f) ∙ marks_other x s t _ wide f ne (λ q n. off_other (word_of x s) s.place q (fits_parts s f).1 n)
      | inr f ↦ ap (λ (y : Places). marked (word_of y t) t.place) (without_not x s f)
    ]

-- every other section is in the set as before
pub with_other : (x : Places) (s t : Section) → length x.words ≡ 16 → (t ≡ s → ⊥) → has_of (with_of x s) t ≡ has_of x t
with_other x s t wide ne = ap (λ (b : Bool). cond (fits t) b false) (with_marks x s t wide ne)

pub without_other : (x : Places) (s t : Section) → length x.words ≡ 16 → (t ≡ s → ⊥) → has_of (without_of x s) t ≡ has_of x t
without_other x s t wide ne = ap (λ (b : Bool). cond (fits t) b false) (without_marks x s t wide ne)

-- a section put in is in the set
pub with_has : (x : Places) (s : Section) → length x.words ≡ 16 → fits s ≡ true → has_of (with_of x s) s ≡ true
with_has x s wide f =
    marked_has (with_of x s) s f
    (ap (λ (y : Places). marked (word_of y s) s.place) (with_is x s f) ∙ ap (λ n. marked n s.place) (word_own x s s _ wide f refl) ∙ set_own (word_of x s) s.place (fits_parts s f).1)

-- a section taken out is not
pub without_has_not : (x : Places) (s : Section) → length x.words ≡ 16 → has_of (without_of x s) s ≡ true → ⊥
without_has_not x s wide h =
    let f = has_fits (without_of x s) s h in
    false≢true
    (sym
    (ap (λ (y : Places). marked (word_of y s) s.place) (without_is x s f) ∙ ap (λ n. marked n s.place) (word_own x s s _ wide f refl) ∙ cleared (word_of x s) s.place (fits_parts s f).1)
    ∙ has_marked (without_of x s) s h)

pub with_was : (x : Places) (s t : Section) → length x.words ≡ 16 → has_of (with_of x s) t ≡ true → (has_of x t ≡ true) ⊎ (t ≡ s)
with_was x s t wide h = elim (cases_section t s) [ inl e ↦ inr e | inr ne ↦ inl (sym (with_other x s t wide ne) ∙ h) ]

pub with_keeps : (x : Places) (s t : Section) → length x.words ≡ 16 → has_of x t ≡ true → has_of (with_of x s) t ≡ true
with_keeps x s t wide h =
    elim (cases_section t s) [
      | inl e ↦ (let f : fits s ≡ true = subst (λ (u : Section). fits u ≡ true) e (has_fits x t h) in subst (λ (u : Section). has_of (with_of x s) u ≡ true) (sym e) (with_has x s wide f))
      | inr ne ↦ with_other x s t wide ne ∙ h
    ]

pub without_was : (x : Places) (s t : Section) → length x.words ≡ 16 → has_of (without_of x s) t ≡ true → (has_of x t ≡ true) × (t ≡ s → ⊥)
without_was x s t wide h =
    elim (cases_section t s) [
      | inl e ↦ absurd (without_has_not x s wide (subst (λ (u : Section). has_of (without_of x s) u ≡ true) e h))
      | inr ne ↦ (sym (without_other x s t wide ne) ∙ h, ne)
    ]

pub without_keeps : (x : Places) (s t : Section) → length x.words ≡ 16 → has_of x t ≡ true → (t ≡ s → ⊥) → has_of (without_of x s) t ≡ true
without_keeps x s t wide h ne = without_other x s t wide ne ∙ h
