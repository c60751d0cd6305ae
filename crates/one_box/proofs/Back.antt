-- A call that is written is read as it was meant: digit by digit, and then by computing each verb's line.
use Rattle.std.proofs.Common.{◌≡◌, ℕ, ◌+◌, ◌-◌, ◌*◌, ◌/◌, ◌%◌, ◌<◌, ◌≤◌, false, eqb, [], ◌∷◌, ◌++◌, Some, codes, decimal, refl, ap, ◌∙◌, inl, inr, arith}
use Rattle.std.proofs.lemmas.Fmt.{decimal_digit, decimal_step}
use Rattle.std.proofs.lemmas.Bool.{cases_lt, le-leb, ne_eqb}
use Rattle.one_box.specs.declared.script.Verb.{Verb}
use Rattle.one_box.specs.declared.script.Verb.TheVariants.{Take, Free, GiveUp}
use Rattle.one_box.specs.declared.script.Line.TheVariants.{Called}
use Rattle.words.specs.Words.{digit_of}
use Rattle.one_box.specs.Script.{ReadsBack, line_of, number_of, verb_text}

digit_back : (d : ℕ) → d < 10 → digit_of (48 + d) ≡ Some d
digit_back d h =
    let same : 48 + d - 48 ≡ d = omega arith in
    rw (le-leb 48 (48 + d) (omega arith), le-leb (48 + d) 57 (omega arith), same) refl

number_back : (n : ℕ) → n < 100 → number_of (decimal n) ≡ Some n
number_back n h = elim (cases_lt n 10) [ inl k ↦ rw (decimal_digit n k) (digit_back n k) | inr k ↦ two k ]
  where
    two : 10 ≤ n → number_of (decimal n) ≡ Some n
    two k =
        let tens : n / 10 < 10 = omega arith in
        let ones : n % 10 < 10 = omega arith in
        let some : eqb (n / 10) 0 ≡ false = ne_eqb (n / 10) 0 (omega arith) in
        let whole : n / 10 * 10 + n % 10 ≡ n = omega arith in
        ap number_of (decimal_step n k (omega arith) ∙ ap (λ ds. ds ++ (48 + n % 10) ∷ []) (decimal_digit (n / 10) tens)) ∙
        rw (digit_back (n / 10) tens, digit_back (n % 10) ones, some, whole) refl

-- each verb's line
by_verb : (v : Verb) (e p : ℕ) → e < 10 → p < 100 → line_of (verb_text v ++ (decimal e ++ (codes " 0:" ++ decimal p))) ≡ Some (Called (record { verb = v; engine = e; place = p }))
by_verb Take e p h k = rw (decimal_digit e h, digit_back e h, number_back p k) refl
by_verb Free e p h k = rw (decimal_digit e h, digit_back e h, number_back p k) refl
by_verb GiveUp e p h k = rw (decimal_digit e h, digit_back e h, number_back p k) refl

pub reads_back : ReadsBack
reads_back call h k = by_verb call.verb call.engine call.place h k
