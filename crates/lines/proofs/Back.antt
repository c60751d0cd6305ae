-- A line that was written is read back: digit by digit, then byte by byte.
use Rattle.std.proofs.Common.{◌≡◌, ℕ, suc, ◌+◌, ◌*◌, ◌/◌, ◌%◌, ◌<◌, ◌≤◌, Bool, true, false, eqb, leb, List, [], ◌∷◌, ◌++◌, length, get_or, drop, Some, None, Option, sym, refl, ap, ◌∙◌, subst, inl, inr, append-nil, add-one, arith, length-append}
use Rattle.std.proofs.lemmas.Bool.Decides.{nat_tests}
use Rattle.messages.specs.Promises.{Bytes}
use Rattle.messages.proofs.Back.{engine_back, section_back}
use Rattle.std.proofs.lemmas.Bool.{and_from, cases_lt, eq-eqb, lt-ltb, le-leb}
use Rattle.messages.specs.declared.yard.BoxNumber.{BoxNumber}
use Rattle.messages.specs.declared.yard.Yard.{Yard}
use Rattle.messages.specs.Reading.{box_of, unless}
use Rattle.messages.specs.Range.{EngineIn, SectionIn}
use Rattle.messages.specs.declared.yard.Engine.{Engine}
use Rattle.messages.specs.declared.yard.Section.{Section}
use Rattle.lines.specs.Digits.{bytes_in, decimal, digit_of, hex_digit, hex_of, hex_value, next_of, number_of}
use Rattle.lines.specs.Lines.{DriverRead, ReadsBack, free_line, is_at, is_free, is_second, is_take, line_of, message, message_in, message_line, place_of, sent_of, take_line, wish_of, wish_text}

-- a number of two digits
pub decimal_two : (n : ℕ) → 10 ≤ n → decimal n ≡ (48 + n / 10) ∷ (48 + n % 10) ∷ []
decimal_two n h = grind (arith, nat_tests)

pub digit_back : (n : ℕ) → n < 16 → hex_value (hex_digit n) ≡ Some n
digit_back n h = grind (arith, nat_tests)

pub bytes_back : (bs : List ℕ) → Bytes bs → bytes_in (hex_of bs) ≡ Some bs
bytes_back [] h = refl
bytes_back (b ∷ bs) h =
    let k : b < 256 = h 0 in
    let hi : b / 16 < 16 = omega arith in
    let lo : b % 16 < 16 = omega arith in
    let is : b / 16 * 16 + b % 16 ≡ b = omega arith in
    rw (digit_back (b / 16) hi, digit_back (b % 16) lo, bytes_back bs (λ i. h (suc i))) (ap (λ (n : ℕ). Some (n ∷ bs)) is)

hex_length : (bs : List ℕ) → length (hex_of bs) ≡ 2 * length bs
hex_length [] = refl
hex_length (b ∷ bs) = let e : length (hex_of bs) ≡ 2 * length bs = hex_length bs in omega arith

message_back : (bs : List ℕ) → Bytes bs → length bs ≤ 21 → message_in (hex_of bs) ≡ Some bs
message_back bs h n = ap (λ (t : Bool). unless t (bytes_in (hex_of bs))) (le-leb (length (hex_of bs)) 42 (omega (arith, hex_length bs))) ∙ bytes_back bs h

decimal_back : (n : ℕ) → n < 10 → digit_of (48 + n) ≡ Some n
decimal_back n h = grind (arith, nat_tests)

decimal_one : (n : ℕ) → n < 10 → decimal n ≡ (48 + n) ∷ []
decimal_one n h = grind (arith, nat_tests)

-- a number is what its digits say, where no digit follows
number_one : (n : ℕ) (r : List ℕ) → n < 10 → digit_of (get_or r 0 0) ≡ None → number_of ((48 + n) ∷ r) ≡ Some (record { value = n; width = 1 })
number_one n r h q =
    let t : leb 1 (length ((48 + n) ∷ r)) ≡ true = le-leb _ _ (omega arith) in
    rw (t, decimal_back n h, next-none ((48 + n) ∷ r) q)
  where
    next-none : (xs : List ℕ) → digit_of (get_or xs 1 0) ≡ None → next_of xs ≡ None
    next-none xs e = ap (λ (o : Option ℕ). unless (leb 2 (length xs)) o) e ∙ either (leb 2 (length xs))
      where
        either : (b : Bool) → unless {A = ℕ} b None ≡ None
        either true = refl
        either false = refl

number_two : (n : ℕ) (r : List ℕ) → n < 100 → number_of ((48 + n / 10) ∷ (48 + n % 10) ∷ r) ≡ Some (record { value = n; width = 2 })
number_two n r h =
    let t : leb 1 (length ((48 + n / 10) ∷ (48 + n % 10) ∷ r)) ≡ true = le-leb _ _ (omega arith) in
    let u : leb 2 (length ((48 + n / 10) ∷ (48 + n % 10) ∷ r)) ≡ true = le-leb _ _ (omega arith) in
    let a : n / 10 < 10 = omega arith in
    let b : n % 10 < 10 = omega arith in
    let is : n / 10 * 10 + n % 10 ≡ n = omega arith in
    rw (t, decimal_back (n / 10) a, u, decimal_back (n % 10) b, is)

number_back : (n : ℕ) (r : List ℕ) → n < 100 → digit_of (get_or r 0 0) ≡ None → number_of (decimal n ++ r) ≡ Some (record { value = n; width = length (decimal n) })
number_back n r h q =
    let P : List ℕ → Type 0 = λ ds. number_of (ds ++ r) ≡ Some (record { value = n; width = length ds }) in
    elim (cases_lt n 10) [ inl d ↦ subst P (sym (decimal_one n d)) (number_one n r d q) | inr d ↦ subst P (sym (decimal_two n d)) (number_two n r h) ]

-- what stands behind the digits, and what follows that
get_d_seam : (c : ℕ) (ds r : List ℕ) → get_or (ds ++ (c ∷ r)) (length ds) 0 ≡ c
get_d_seam c [] r = refl
get_d_seam c (d ∷ ds) r = get_d_seam c ds r

at_seam : (c : ℕ) (ds r : List ℕ) → is_at c (length ds) (ds ++ (c ∷ r)) ≡ true
at_seam c ds r = and_from _ _ (lt-ltb (length ds) (length (ds ++ (c ∷ r))) (omega (arith, length-append ds (c ∷ r)))) (eq-eqb _ _ (get_d_seam c ds r))

drop_suc_seam : (c : ℕ) (ds r : List ℕ) → drop (suc (length ds)) (ds ++ (c ∷ r)) ≡ r
drop_suc_seam c [] r = refl
drop_suc_seam c (d ∷ ds) r = drop_suc_seam c ds r

drop_seam : (c : ℕ) (ds r : List ℕ) → drop (length ds + 1) (ds ++ (c ∷ r)) ≡ r
drop_seam c ds r = ap (λ (n : ℕ). drop n (ds ++ (c ∷ r))) (add-one (length ds)) ∙ drop_suc_seam c ds r

first_digit : (n : ℕ) (r : List ℕ) → n < 100 → get_or (decimal n ++ r) 0 0 < 100
first_digit n r h =
    let P : List ℕ → Type 0 = λ ds. get_or (ds ++ r) 0 0 < 100 in
    elim (cases_lt n 10) [ inl d ↦ subst P (sym (decimal_one n d)) (omega arith) | inr d ↦ subst P (sym (decimal_two n d)) (omega arith) ]

box_back : (y : Yard) (b : BoxNumber) → b.0 < y.boxes → box_of y b.0 ≡ Some b
box_back y b h = ap (λ (t : Bool). unless t (Some b)) (lt-ltb b.0 y.boxes h)

-- a line that begins with a digit is a message's
no_word : (y : Yard) (xs : List ℕ) → get_or xs 0 0 < 100 → line_of y xs ≡ sent_of y xs
no_word y xs h =
    let t : is_take xs ≡ false = grind (arith, nat_tests) in
    let f : is_free xs ≡ false = grind (arith, nat_tests) in
    let s : is_second xs ≡ false = grind (arith, nat_tests) in
    rw (t, f, s)

sent_back : (y : Yard) (b : BoxNumber) (bs xs : List ℕ) (w : ℕ) → number_of xs ≡ Some (record { value = b.0; width = w }) → is_at 32 w xs ≡ true
    → drop (w + 1) xs ≡ hex_of bs → b.0 < y.boxes → Bytes bs → length bs ≤ 21 → sent_of y xs ≡ Some (message b bs)
sent_back y b bs xs w p q r h k n = rw (p, q, r, box_back y b h, message_back bs k n)

pub reads_back : ReadsBack
reads_back y b bs h k n =
    let w : b.0 < 100 = omega arith in
    no_word y (message_line b bs) (first_digit b.0 (32 ∷ hex_of bs) w)
    ∙ sent_back y b bs (message_line b bs) (length (decimal b.0)) (number_back b.0 (32 ∷ hex_of bs) w refl) (at_seam 32 (decimal b.0) (hex_of bs))
    (drop_seam 32 (decimal b.0) (hex_of bs)) h k n

place_made : (y : Yard) (s : Section) (xs t : List ℕ) (w v : ℕ) → number_of xs ≡ Some (record { value = s.keeper.0; width = w }) → is_at 58 w xs ≡ true
    → drop (w + 1) xs ≡ t → number_of t ≡ Some (record { value = s.place; width = v }) → eqb v (length t) ≡ true → SectionIn y s → place_of y xs ≡ Some s
place_made y s xs t w v p q r m l h = rw (p, q, r, m, l, section_back y s h)

wish_made : (y : Yard) (e : Engine) (s : Section) (xs t : List ℕ) (w : ℕ) → number_of xs ≡ Some (record { value = e.0; width = w }) → is_at 32 w xs ≡ true
    → drop (w + 1) xs ≡ t → EngineIn y e → place_of y t ≡ Some s → wish_of y xs ≡ Some (record { engine = e; section = s })
wish_made y e s xs t w p q r h m = rw (p, q, r, engine_back y e h, m)

place_back : (y : Yard) (s : Section) → SectionIn y s → place_of y (decimal s.keeper.0 ++ (58 ∷ decimal s.place)) ≡ Some s
place_back y s h =
    let k : s.keeper.0 < 100 = omega (arith, h.0) in
    let p : s.place < 100 = omega (arith, h.1) in
    let P : List ℕ → Type 0 = λ ds. number_of ds ≡ Some (record { value = s.place; width = length (decimal s.place) }) in
    place_made y s _ (decimal s.place) _ _ (number_back s.keeper.0 (58 ∷ decimal s.place) k refl) (at_seam 58 (decimal s.keeper.0) (decimal s.place))
    (drop_seam 58 (decimal s.keeper.0) (decimal s.place)) (subst P (append-nil (decimal s.place)) (number_back s.place [] p refl)) (eq-eqb _ _ refl) h

wish_back : (y : Yard) (e : Engine) (s : Section) → EngineIn y e → SectionIn y s → wish_of y (wish_text e s) ≡ Some (record { engine = e; section = s })
wish_back y e s g h =
    let k : e.0 < 100 = omega arith in
    let t : List ℕ = decimal s.keeper.0 ++ (58 ∷ decimal s.place) in
    wish_made y e s _ t _ (number_back e.0 (32 ∷ t) k refl) (at_seam 32 (decimal e.0) t) (drop_seam 32 (decimal e.0) t) g (place_back y s h)

pub driver_read : DriverRead
driver_read y e s g h =
    let n : leb 5 (length (take_line e s)) ≡ true = le-leb _ _ (omega arith) in
    let m : leb 5 (length (free_line e s)) ≡ true = le-leb _ _ (omega arith) in
    (rw (n, wish_back y e s g h), rw (m, wish_back y e s g h))
