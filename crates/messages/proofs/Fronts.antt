-- How long a record is stands in its first byte, so what stands first in a file is decided by its length alone.
use Rattle.std.proofs.Common.{◌≡◌, ℕ, zero, suc, ◌+◌, ◌-◌, ◌<◌, ◌≤◌, List, [], ◌∷◌, ◌++◌, length, get_or, take, drop, Some, Option, sym, refl, ap, ◌∙◌, subst, arith, lit<, append-nil, append_assoc, length-append, length-drop, take-append-drop, length-take-le, take_all, drop-drop, MatchOption}
use lib.Seq.{take-append-le, take-length}
use Rattle.std.proofs.lemmas.List.Prefix.{front_rest}
use Rattle.std.proofs.lemmas.Option.{same_Some}
use Rattle.messages.specs.declared.yard.Yard.{Yard}
use Rattle.messages.specs.declared.message.Act.{Act}
use Rattle.messages.specs.declared.message.Act.TheVariants as act
use Rattle.messages.specs.declared.message.Record.{Record}
use Rattle.messages.specs.declared.message.Record.TheVariants as journal
use Rattle.messages.specs.declared.records.First.{First}
use Rattle.messages.specs.declared.records.First.TheVariants as first
use Rattle.messages.specs.Journal.{AllIn, CutIsShort, FirstIs, Holds, OneList, Short, record_of, size_of, written}
use Rattle.messages.specs.Promises.{Bytes}
use Rattle.messages.specs.Range.{RecordIn}
use Rattle.messages.specs.Table.{act_byte, record_bytes}
use Rattle.messages.proofs.Journal.{record_back, record_form}

act_size : (a : Act) → size_of (act_byte a) ≡ Some 8
act_size act.Take = refl
act_size act.Free = refl
act_size act.GiveUp = refl

pub size_is : (r : Record) (rest : List ℕ) → size_of (get_or (record_bytes r ++ rest) 0 0) ≡ Some (length (record_bytes r))
size_is (journal.Kept c) rest = act_size c.act
size_is (journal.Made c) rest = refl
size_is (journal.Beginning holder waits own) rest = refl
size_is (journal.Heard e s) rest = refl

pub some_bytes : (r : Record) → 1 ≤ length (record_bytes r)
some_bytes (journal.Kept c) = omega arith
some_bytes (journal.Made c) = omega arith
some_bytes (journal.Beginning holder waits own) = omega arith
some_bytes (journal.Heard e s) = omega arith

pub short_lt : (xs : List ℕ) (n : ℕ) → 1 ≤ length xs → size_of (get_or xs 0 0) ≡ Some n → Short xs → length xs < n
short_lt [] n long is h = absurd (omega arith)
short_lt (k ∷ xs) n long is h = let P : Option ℕ → Type 0 = λ o. MatchOption o ⊥ (λ m. suc (length xs) < m) in subst P is h

pub lt_short : (xs : List ℕ) (n : ℕ) → 1 ≤ length xs → size_of (get_or xs 0 0) ≡ Some n → length xs < n → Short xs
lt_short [] n long is h = tt
lt_short (k ∷ xs) n long is h = let P : Option ℕ → Type 0 = λ o. MatchOption o ⊥ (λ m. suc (length xs) < m) in subst P (sym is) h

pub long_not_short : (r : Record) (rest : List ℕ) → Short (record_bytes r ++ rest) → ⊥
long_not_short r rest h =
    let l = length-append (record_bytes r) rest in
    let p = some_bytes r in
    let q = short_lt (record_bytes r ++ rest) (length (record_bytes r)) (omega arith) (size_is r rest) h in
    omega arith

get_d_front : (xs ys : List ℕ) → 1 ≤ length xs → get_or (xs ++ ys) 0 0 ≡ get_or xs 0 0
get_d_front [] ys h = absurd (omega arith)
get_d_front (x ∷ xs) ys h = refl

more_than : (xs : List ℕ) → (xs ≡ [] → ⊥) → 1 ≤ length xs
more_than [] h = absurd (h refl)
more_than (x ∷ xs) h = omega arith

pub cut_is_short : CutIsShort
cut_is_short r [] rest is more = tt
cut_is_short r (k ∷ front) rest is more =
    let s = size_is r [] in
    let e : size_of k ≡ Some (length (record_bytes r)) = ap (λ (l : List ℕ). size_of (get_or l 0 0)) (is ∙ sym (append-nil (record_bytes r))) ∙ s in
    let l = length-append (k ∷ front) rest in
    let w = ap length is in
    let m = more_than rest more in
    lt_short (k ∷ front) (length (record_bytes r)) (omega arith) e (omega arith)

-- equal lists with fronts of one length have equal fronts and equal rests
pub apart : (a b c d : List ℕ) → length a ≡ length b → a ++ c ≡ b ++ d → (a ≡ b) × (c ≡ d)
apart a b c d l is = (
  sym (take-append-le (length a) a c (omega arith) ∙ take-length a)
      ∙ (ap (take (length a)) is ∙ (ap (λ (n : ℕ). take n (b ++ d)) l ∙ (take-append-le (length b) b d (omega arith) ∙ take-length b))),
  sym (front_rest (a ++ c) a c refl) ∙ (ap (drop (length a)) is ∙ (ap (λ (n : ℕ). drop n (b ++ d)) l ∙ front_rest (b ++ d) b d refl)),
)

pub same_first : (y : Yard) (r q : Record) (c d : List ℕ) → RecordIn y r → RecordIn y q → record_bytes r ++ c ≡ record_bytes q ++ d → (r ≡ q) × (c ≡ d)
same_first y r q c d i j is =
    let l : length (record_bytes r) ≡ length (record_bytes q)
    = same_Some _ _ (sym (size_is r c) ∙ (ap (λ (l : List ℕ). size_of (get_or l 0 0)) is ∙ size_is q d)) in
    let e = apart (record_bytes r) (record_bytes q) c d l is in
    (same_Some r q (sym (record_back y r i) ∙ (ap (record_of y) e.0 ∙ record_back y q j)), e.1)

-- two lists of records that begin the same bytes, each with what follows it
one_by_one : (y : Yard) (rs qs : List Record) (t u : List ℕ) → AllIn y rs → AllIn y qs → written rs ++ t ≡ written qs ++ u → Short t → Short u → (rs ≡ qs) × (t ≡ u)
one_by_one y [] [] t u i j is s v = (refl, is)
one_by_one y [] (q ∷ qs) t u i j is s v =
    let P : List ℕ → Type 0 = Short in absurd (long_not_short q (written qs ++ u) (subst P (is ∙ append_assoc (record_bytes q) (written qs) u) s))
one_by_one y (r ∷ rs) [] t u i j is s v =
    let P : List ℕ → Type 0 = Short in absurd (long_not_short r (written rs ++ t) (subst P (sym is ∙ append_assoc (record_bytes r) (written rs) t) v))
one_by_one y (r ∷ rs) (q ∷ qs) t u i j is s v =
    let e = same_first y r q (written rs ++ t) (written qs ++ u) i.0 j.0 (sym (append_assoc (record_bytes r) (written rs) t) ∙ (is ∙ append_assoc (record_bytes q) (written qs) u)) in
    let f = one_by_one y rs qs t u i.1 j.1 e.1 s v in
    (let a = e.0 in let b = f.0 in cc, f.1)

pub one_list : OneList
one_list y xs rs qs t u h k = one_by_one y rs qs t u h.0 k.0 (h.1 ∙ sym k.1) h.2 k.2

-- after whole records something that is neither a record nor short: no list of records is there
pub none_there : (y : Yard) (rs qs : List Record) (t u : List ℕ) → AllIn y rs → AllIn y qs → written rs ++ t ≡ written qs ++ u → FirstIs y t first.Damaged → Short u → ⊥
none_there y [] [] t u i j is d s = let P : List ℕ → Type 0 = Short in d.0 (subst P (sym is) s)
none_there y [] (q ∷ qs) t u i j is d s = d.1 q (written qs ++ u) j.0 (sym (is ∙ append_assoc (record_bytes q) (written qs) u))
none_there y (r ∷ rs) [] t u i j is d s =
    let P : List ℕ → Type 0 = Short in long_not_short r (written rs ++ t) (subst P (sym is ∙ append_assoc (record_bytes r) (written rs) t) s)
none_there y (r ∷ rs) (q ∷ qs) t u i j is d s =
    let e = same_first y r q (written rs ++ t) (written qs ++ u) i.0 j.0 (sym (append_assoc (record_bytes r) (written rs) t) ∙ (is ∙ append_assoc (record_bytes q) (written qs) u)) in
    none_there y rs qs t u i.1 j.1 e.1 d s

-- a first part of bytes is bytes
below_at : (xs : List ℕ) (n i : ℕ) → Bytes xs → get_or (take n xs) i 0 < 256
below_at xs zero i b = lit< tt
below_at [] (suc n) i b = lit< tt
below_at (x ∷ xs) (suc n) zero b = b 0
below_at (x ∷ xs) (suc n) (suc i) b = below_at xs n i (λ j. b (suc j))

pub first_whole : (y : Yard) (xs : List ℕ) (n : ℕ) (r : Record) → Bytes xs → size_of (get_or xs 0 0) ≡ Some n → n ≤ length xs
    → record_of y (take n xs) ≡ Some r → FirstIs y xs (first.Whole r n)
first_whole y xs n r b is fits found =
    let f = record_form y (take n xs) r (λ i. below_at xs n i b) found in
    (f.0, ap (λ (l : List ℕ). l ++ drop n xs) f.1 ∙ take-append-drop n xs, sym (ap length f.1 ∙ length-take-le n xs fits))

written_push : (rs : List Record) (r : Record) → written (rs ++ (r ∷ [])) ≡ written rs ++ record_bytes r
written_push [] r = append-nil (record_bytes r)
written_push (q ∷ rs) r = ap (λ (l : List ℕ). record_bytes q ++ l) (written_push rs r) ∙ sym (append_assoc (record_bytes q) (written rs) (record_bytes r))

all_push : (y : Yard) (rs : List Record) (r : Record) → AllIn y rs → RecordIn y r → AllIn y (rs ++ (r ∷ []))
all_push y [] r h i = (i, tt)
all_push y (q ∷ rs) r h i = (h.0, all_push y rs r h.1 i)

-- whole records so far, in a file's first bytes
abbrev pub SoFar : Yard → List ℕ → List Record → ℕ → Type 0
SoFar y xs rs at = AllIn y rs × (written rs ++ drop at xs ≡ xs) × (at ≡ length (written rs)) × (at ≤ length xs)

pub so_far_more : (y : Yard) (xs : List ℕ) (rs : List Record) (at n : ℕ) (r : Record) → SoFar y xs rs at → FirstIs y (drop at xs) (first.Whole r n)
    → SoFar y xs (rs ++ (r ∷ [])) (at + n)
so_far_more y xs rs at n r h f =
    let w = written_push rs r in
    let l = ap length w ∙ length-append (written rs) (record_bytes r) in
    let d = drop-drop n at xs in
    let q : (written rs ++ record_bytes r) ++ drop (at + n) xs ≡ xs
    = append_assoc (written rs) (record_bytes r) (drop (at + n) xs) ∙ (ap (λ (l : List ℕ). written rs ++ (record_bytes r ++ l)) (sym d) ∙ (ap (λ (l : List ℕ). written rs ++ l) f.1 ∙ h.1)) in
    let m = ap length q in
    let m2 = length-append (written rs ++ record_bytes r) (drop (at + n) xs) in
    let m3 = length-append (written rs) (record_bytes r) in
    (all_push y rs r h.0 f.0, ap (λ (l : List ℕ). l ++ drop (at + n) xs) w ∙ q, omega (arith, l, h.2, f.2), omega (arith, l, m, m2, m3, h.2, f.2))

-- a slice from `at` on is what is left there
pub rest_is : (y : Yard) (xs : List ℕ) (at : ℕ) (f : First) → FirstIs y (take (length xs - at) (drop at xs)) f → FirstIs y (drop at xs) f
rest_is y xs at f h =
    let P : List ℕ → Type 0 = λ l. FirstIs y l f in subst P (take_all (length xs - at) (drop at xs) (omega (arith, length-drop at xs))) h

pub so_far_damaged : (y : Yard) (xs : List ℕ) (rs : List Record) (at : ℕ) → SoFar y xs rs at → FirstIs y (drop at xs) first.Damaged
    → ((qs : List Record) (t : List ℕ) → Holds y xs qs t → ⊥)
    × ((qs : List Record) × (AllIn y qs × (written qs ++ drop at xs ≡ xs) × (at ≡ length (written qs)) × FirstIs y (drop at xs) first.Damaged))
so_far_damaged y xs rs at h d =
    ((λ qs t k. none_there y rs qs (drop at xs) t h.0 k.0 (h.1 ∙ sym k.1) d k.2), (rs, (h.0, h.1, h.2, d)))
