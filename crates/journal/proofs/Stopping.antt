-- Bytes cut anywhere: whole records, and then less than one.
use Rattle.std.proofs.Common.{◌≡◌, ℕ, zero, suc, ◌+◌, ◌-◌, ◌≤◌, min, List, [], ◌∷◌, ◌++◌, length, take, drop, Ok, Err, vec_items, Result, Vec, sym, ap, ◌∙◌, subst, inl, inr, append_assoc, append-nil, arith, length-append, length-drop}
use Rattle.std.proofs.lemmas.List.{take_all, take-append-drop, take-append-le, take_at}
use Rattle.std.proofs.lemmas.Bool.{cases_lt}
use Rattle.std.specs.declared.alloc.Global.{Global}
use Rattle.messages.specs.declared.message.Record.{Record}
use Rattle.messages.specs.declared.yard.Yard.{Yard}
use Rattle.messages.specs.Journal.{AllIn, Holds, Short, written}
use Rattle.messages.specs.Table.{record_bytes}
use Rattle.messages.proofs.Fronts.{cut_is_short, long_not_short, one_list, same_first}
use Rattle.journal.specs.declared.opening.OpenFault.{OpenFault}
use Rattle.journal.specs.declared.opening.OpenFault.TheVariants as fault
use Rattle.journal.specs.Opening.{AppendedReadsBack, Found, Gives, Leaves, OpenedTwice, Reads, Restarted, StillThere}
use Rattle.journal.specs.Storage.{Remains}
use Rattle.journal.proofs.Storing.{written_both}

-- past a front that is kept whole
pub take_past : (a b : List ℕ) (k : ℕ) → take (length a + k) (a ++ b) ≡ a ++ take k b
take_past [] b k = let z : 0 + k ≡ k = omega arith in ap (λ (n : ℕ). take n b) z
take_past (x ∷ a) b k =
    let z : suc (length a) + k ≡ suc (length a + k) = omega arith in ap (λ (n : ℕ). take n (x ∷ (a ++ b))) z ∙ ap (λ (l : List ℕ). x ∷ l) (take_past a b k)

pub all_both : (y : Yard) (rs qs : List Record) → AllIn y rs → AllIn y qs → AllIn y (rs ++ qs)
all_both y [] qs all more = more
all_both y (r ∷ rs) qs all more = (all.0, all_both y rs qs all.1 more)

pub all_take : (y : Yard) (rs : List Record) (j : ℕ) → AllIn y rs → AllIn y (take j rs)
all_take y rs zero all = tt
all_take y [] (suc j) all = tt
all_take y (r ∷ rs) (suc j) all = (all.0, all_take y rs j all.1)

-- where the bytes of records are cut: after some of the records, within the next
abbrev CutAt : List Record → ℕ → Type 0
CutAt rs k = (j : ℕ) × (u : List ℕ) × (written (take j rs) ++ u ≡ take k (written rs)) × Short u

pub cut_somewhere : (rs : List Record) (k : ℕ) → CutAt rs k
cut_somewhere [] k = (0, [], sym (take_all k [] (omega arith)), tt)
cut_somewhere (r ∷ rs) k =
    elim (cases_lt k (length (record_bytes r))) [
      | inl lt ↦ (
        0,
        take k (record_bytes r),
        sym (take-append-le k (record_bytes r) (written rs) (omega arith)),
        cut_is_short r (take k (record_bytes r)) (drop k (record_bytes r)) (take-append-drop k (record_bytes r))
            (λ none. let l = length-drop k (record_bytes r) in let z = ap length none in omega arith),
      )
      | inr ge ↦
          let c = cut_somewhere rs (k - length (record_bytes r)) in
          let s : length (record_bytes r) + (k - length (record_bytes r)) ≡ k = omega arith in (
            suc c.0,
            c.1,
            append_assoc (record_bytes r) (written (take c.0 rs)) c.1 ∙ (ap (λ (l : List ℕ). record_bytes r ++ l) c.2
                ∙ (sym (take_past (record_bytes r) (written rs) (k - length (record_bytes r))) ∙ ap (λ (n : ℕ). take n (record_bytes r ++ written rs)) s)),
            c.3,
          )
    ]

-- a list of records whose bytes stand first reaches no further than the one that is read
pub reaches : (y : Yard) (rs qs : List Record) (a b : List ℕ) → AllIn y rs → AllIn y qs → written rs ++ a ≡ written qs ++ b → Short b → length (written rs) ≤ length (written qs)
reaches y [] qs a b i j is s = omega arith
reaches y (r ∷ rs) [] a b i j is s =
    let P : List ℕ → Type 0 = Short in absurd (long_not_short r (written rs ++ a) (subst P (sym is ∙ append_assoc (record_bytes r) (written rs) a) s))
reaches y (r ∷ rs) (q ∷ qs) a b i j is s =
    let e = same_first y r q (written rs ++ a) (written qs ++ b) i.0 j.0 (sym (append_assoc (record_bytes r) (written rs) a) ∙ (is ∙ append_assoc (record_bytes q) (written qs) b)) in
    let l = reaches y rs qs a b i.1 j.1 e.1 s in
    let f = ap (λ (x : Record). length (record_bytes x)) e.0 in
    let p = length-append (record_bytes r) (written rs) in
    let o = length-append (record_bytes q) (written qs) in
    omega arith

-- opening a file that has these records, and then at most the beginning of one
pub gives : (y : Yard) (xs : List ℕ) (rs : List Record) (u : List ℕ) (r : Result (Vec Record Global) OpenFault) → Holds y xs rs u → Reads y xs r → Gives rs r
gives y xs rs u (Ok v) h o = (one_list y xs (vec_items v) rs o.0 u o.1 h).0
gives y xs rs u (Err (fault.Damaged at)) h o = o.0 rs u h
gives y xs rs u (Err (fault.Fault f)) h o = tt

pub opened_twice : OpenedTwice
opened_twice y xs v r first second = gives y (written (vec_items v)) (vec_items v) [] r (first.1.0, append-nil (written (vec_items v)), tt) second

pub appended_reads_back : AppendedReadsBack
appended_reads_back y xs v more r first all second =
    gives y _ (vec_items v ++ more) [] r
    (all_both y (vec_items v) more first.1.0 all, append-nil (written (vec_items v ++ more)) ∙ written_both (vec_items v) more, tt) second

-- a fault before the file was touched
pub untouched : (y : Yard) (xs : List ℕ) (n : ℕ) (after : List ℕ → ℕ → Type 0) → after xs n → StillThere y xs n after
untouched y xs n after h =
    let P : List ℕ → Type 0 = λ l. after l n in (length xs, n, subst P (sym (take_all (length xs) xs (omega arith))) h, λ rs rest all is le. le)

-- a fault while it was cut back
pub trimmed : (y : Yard) (xs : List ℕ) (n w : ℕ) (qs : List Record) (u : List ℕ) (after : List ℕ → ℕ → Type 0) → Holds y xs qs u → w ≡ length (written qs)
    → Remains after xs (min n w) → StillThere y xs n after
trimmed y xs n w qs u after h is r =
    (r.0, min n w, r.2, λ rs rest all e le. let l = reaches y rs qs rest u all h.0 (e ∙ sym h.1) h.2 in omega arith)

-- what is left after cutting back
pub whole_left : (y : Yard) (xs : List ℕ) (w : ℕ) (qs : List Record) (u : List ℕ) → Holds y xs qs u → w ≡ length (written qs) → (take w xs ≡ written qs) × (w ≤ length xs)
whole_left y xs w qs u h is =
    let a = length-append (written qs) u in
    let b = ap length h.1 in
    (ap (take w) (sym h.1) ∙ take_at (written qs) u w (sym is), omega arith)

-- what opening leaves, where reading failed or found damage
pub not_read : (y : Yard) (xs : List ℕ) (n : ℕ) (after : List ℕ → ℕ → Type 0) (f : OpenFault) → Found y xs (Err f) → after xs n → Leaves y xs n after (Err f)
not_read y xs n after (fault.Damaged at) found h = h
not_read y xs n after (fault.Fault f) found h = untouched y xs n after h

by_answer : (rs others : List Record) (j : ℕ) (y : Yard) (xs : List ℕ) (n s : ℕ) (held : List ℕ) (r : Result (Vec Record Global) OpenFault) → Gives (rs ++ take j others) r
    → Leaves y xs n (λ zs m. (held ≡ zs) × (s ≡ m)) r → Restarted rs others held r
by_answer rs others j y xs n s held (Ok v) g leaves = (j, g, leaves.0)
by_answer rs others j y xs n s held (Err (fault.Damaged at)) g leaves = g
by_answer rs others j y xs n s held (Err (fault.Fault f)) g leaves = tt

-- a stop within records: the opening after it
pub restarted : (y : Yard) (rs others : List Record) (keep n s : ℕ) (xs held : List ℕ) (r : Result (Vec Record Global) OpenFault) → AllIn y rs → AllIn y others
    → xs ≡ take (length (written rs) + keep) (written (rs ++ others)) → Reads y xs r → Leaves y xs n (λ zs m. (held ≡ zs) × (s ≡ m)) r → Restarted rs others held r
restarted y rs others keep n s xs held r all more is reads leaves =
    let c = cut_somewhere others keep in
    let here : written (rs ++ take c.0 others) ++ c.1 ≡ xs =
    ap (λ (l : List ℕ). l ++ c.1) (written_both rs (take c.0 others)) ∙ (append_assoc (written rs) (written (take c.0 others)) c.1
    ∙ (ap (λ (l : List ℕ). written rs ++ l) c.2 ∙ (sym (take_past (written rs) (written others) keep)
    ∙ (ap (take (length (written rs) + keep)) (sym (written_both rs others)) ∙ sym is)))) in
    let g = gives y xs (rs ++ take c.0 others) c.1 r (all_both y rs (take c.0 others) all (all_take y others c.0 more), here, c.3) reads in
    by_answer rs others c.0 y xs n s held r g leaves
