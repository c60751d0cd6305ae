-- Whatever is read was written so: a reader's answer is taken apart test by test, and its fields are the bytes.
use Rattle.std.proofs.Common.{◌≡◌, ℕ, zero, suc, ◌+◌, ◌^◌, ◌<◌, ◌≤◌, Bool, true, false, cond, ◌&&◌, eqb, ltb, leb, ◌⊎◌, List, [], ◌∷◌, ◌++◌, length, get_or, drop, Some, None, Option, sym, refl, ap, ◌∙◌, subst, inl, inr, arith, drop-cons}
use Rattle.std.proofs.lemmas.List.{drop_all}
use Rattle.std.proofs.lemmas.Bool.{and_parts, eqb-true, leb-true, ltb-true}
use Rattle.std.proofs.lemmas.Option.{none-some, same_Some}
use Rattle.messages.specs.declared.yard.Yard.{Yard}
use Rattle.messages.specs.declared.yard.Engine.{Engine}
use Rattle.messages.specs.declared.yard.Section.{Section}
use Rattle.messages.specs.declared.message.Act.{Act}
use Rattle.messages.specs.declared.message.Act.TheVariants as act
use Rattle.messages.specs.declared.message.Call.{Call}
use Rattle.messages.specs.declared.message.Refusal.{Refusal}
use Rattle.messages.specs.declared.message.Refusal.TheVariants as refusal
use Rattle.messages.specs.declared.message.Reply.{Reply}
use Rattle.messages.specs.declared.message.Reply.TheVariants as reply
use Rattle.messages.specs.declared.message.Message.{Message}
use Rattle.messages.specs.Holder.{Holder}
use Rattle.messages.specs.Promises.{Bytes, OneForm}
use Rattle.messages.specs.Range.{CallIn, HolderIn, MessageIn, ReplyIn}
use Rattle.messages.specs.Reading.{and_then, answer_of, call_of, calling, change_of, engine_of, four_at, eight_at, holder_of, kind_of, refusal_of, reply_of, section_of, sign_of, unless, waits_of, which_of}
use Rattle.messages.specs.Table.{act_byte, bytes_of, call_bytes, eight, four, holder_byte, refusal_number, reply_byte, reply_end}
use Rattle.messages.proofs.Numbers.{eight_of, four_of}

-- n places of a list from i on
abbrev pub places : ℕ → ℕ → List ℕ → List ℕ
places i zero xs = []
places i (suc n) xs = get_or xs i 0 ∷ places (suc i) n xs

places_all : (n i : ℕ) (xs : List ℕ) → length xs ≡ i + n → drop i xs ≡ places i n xs
places_all zero i xs is = drop_all i xs (omega arith)
places_all (suc n) i xs is = drop-cons xs i 0 (omega arith) ∙ ap (λ (l : List ℕ). get_or xs i 0 ∷ l) (places_all n (suc i) xs (omega arith))

-- a list of n, place by place
pub spelled : (n : ℕ) (xs : List ℕ) → eqb (length xs) n ≡ true → xs ≡ places 0 n xs
spelled n xs is = places_all n 0 xs (omega (arith, eqb-true (length xs) n is))

pub when : {A : Type 0} (t : Bool) (o : Option A) (x : A) → unless t o ≡ Some x → (t ≡ true) × (o ≡ Some x)
when true o x p = (refl, p)
when false o x p = absurd (none-some x p)

pub got : {A B : Type 0} (o : Option A) (f : A → Option B) (x : B) → and_then o f ≡ Some x → (a : A) × ((o ≡ Some a) × (f a ≡ Some x))
got None f x p = absurd (none-some x p)
got (Some a) f x p = (a, (refl, p))

pub engine_got : (y : Yard) (n : ℕ) (e : Engine) → engine_of y n ≡ Some e → (n < y.engines) × (e ≡ record { 0 = n })
engine_got y n e p = let q = when (ltb n y.engines) (Some (record { 0 = n })) e p in (ltb-true n y.engines q.0, sym (same_Some _ e q.1))

pub branch : {A : Type 0} (t : Bool) (x y : Option A) (z : A) → cond t x y ≡ Some z → ((t ≡ true) × (x ≡ Some z)) ⊎ ((t ≡ false) × (y ≡ Some z))
branch true x y z p = inl (refl, p)
branch false x y z p = inr (refl, p)

pub holder_got : (y : Yard) (n : ℕ) (h : Holder) → holder_of y n ≡ Some h → HolderIn y h × (holder_byte h ≡ n)
holder_got y n h is =
    let P : Holder → Type 0 = λ x. HolderIn y x × (holder_byte x ≡ n) in
    elim (branch (eqb n 255) (Some None) (and_then (engine_of y n) (λ e. Some (Some e))) h is) [
      | inl q ↦ subst P (same_Some _ h q.1) (tt, sym (eqb-true n 255 q.0))
      | inr q ↦ let g = got (engine_of y n) (λ e. Some (Some e)) h q.1 in
          let e = engine_got y n g.0 g.1.0 in
          let Q : Engine → Type 0 = λ x. P (Some x) in
          subst P (same_Some _ h g.1.1) (subst Q (sym e.1) (e.0, refl))
    ]

pub refusal_got : (n : ℕ) (q : Refusal) → refusal_of n ≡ Some q → ReplyIn (reply.Refused q) × (refusal_number q ≡ n)
refusal_got n q is =
    let P : Refusal → Type 0 = λ x. ReplyIn (reply.Refused x) × (refusal_number x ≡ n) in
    elim (branch (eqb n 3) (Some refusal.Waiting) _ q is) [
      | inl a ↦ subst P (same_Some _ q a.1) (tt, sym (eqb-true n 3 a.0))
      | inr a ↦ elim (branch (eqb n 4) (Some refusal.Mismatch) _ q a.1) [
        | inl b ↦ subst P (same_Some _ q b.1) (tt, sym (eqb-true n 4 b.0))
        | inr b ↦ elim (branch (eqb n 7) (Some refusal.Exhausted) None q b.1) [
          | inl c ↦ subst P (same_Some _ q c.1) (tt, sym (eqb-true n 7 c.0))
          | inr c ↦ absurd (none-some q c.1)
        ]
      ]
    ]

abbrev ReplyFrom : ℕ → List ℕ → Reply → Type 0
ReplyFrom n end r = ReplyIn r × (reply_byte r ≡ n) × (reply_end r ≡ end)

pub reply_got : (n : ℕ) (end : List ℕ) (r : Reply) → reply_of n end ≡ Some r → ReplyFrom n end r
reply_got n end r is =
    let P : Reply → Type 0 = ReplyFrom n end in
    elim (branch (eqb n 1) (unless (eqb (length end) 0) (Some reply.Done)) _ r is) [
      | inl a ↦ let w = when (eqb (length end) 0) (Some reply.Done) r a.1 in
          subst P (same_Some _ r w.1) (tt, sym (eqb-true n 1 a.0), sym (spelled 0 end w.0))
      | inr a ↦ elim (branch (eqb n 2) (unless (eqb (length end) 0) (Some reply.Waits)) _ r a.1) [
        | inl b ↦ let w = when (eqb (length end) 0) (Some reply.Waits) r b.1 in
            subst P (same_Some _ r w.1) (tt, sym (eqb-true n 2 b.0), sym (spelled 0 end w.0))
        | inr b ↦ elim (branch (eqb n 0) (unless (eqb (length end) 1) (and_then (refusal_of (get_or end 0 0)) (λ q. Some (reply.Refused q)))) None r b.1) [
          | inl c ↦ let w = when (eqb (length end) 1) (and_then (refusal_of (get_or end 0 0)) (λ q. Some (reply.Refused q))) r c.1 in
              let g = got (refusal_of (get_or end 0 0)) (λ q. Some (reply.Refused q)) r w.1 in
              let f = refusal_got (get_or end 0 0) g.0 g.1.0 in
              subst P (same_Some _ r g.1.1) (f.0, sym (eqb-true n 0 c.0), ap (λ (x : ℕ). x ∷ []) f.1 ∙ sym (spelled 1 end w.0))
          | inr c ↦ absurd (none-some r c.1)
        ]
      ]
    ]

pub four_at_lem : (xs : List ℕ) (i : ℕ) → Bytes xs → four (four_at xs i) ≡ get_or xs i 0 ∷ get_or xs (i + 1) 0 ∷ get_or xs (i + 2) 0 ∷ get_or xs (i + 3) 0 ∷ []
four_at_lem xs i b = four_of _ _ _ _ (b i) (b (i + 1)) (b (i + 2)) (b (i + 3))

pub four_lt : (xs : List ℕ) (i : ℕ) → Bytes xs → four_at xs i < 2 ^ 32
four_lt xs i b = omega (arith, b i, b (i + 1), b (i + 2), b (i + 3))

pub eight_at_lem : (xs : List ℕ) (i : ℕ) → Bytes xs → eight (eight_at xs i)
    ≡ get_or xs i 0 ∷ get_or xs (i + 1) 0 ∷ get_or xs (i + 2) 0 ∷ get_or xs (i + 3) 0 ∷ get_or xs (i + 4) 0 ∷ get_or xs (i + 5) 0 ∷ get_or xs (i + 6) 0 ∷ get_or xs (i + 7) 0 ∷ []
eight_at_lem xs i b = eight_of _ _ _ _ _ _ _ _ (b i) (b (i + 1)) (b (i + 2)) (b (i + 3)) (b (i + 4)) (b (i + 5)) (b (i + 6)) (b (i + 7))

pub eight_lt : (xs : List ℕ) (i : ℕ) → Bytes xs → eight_at xs i < 2 ^ 64
eight_lt xs i b = omega (arith, b i, b (i + 1), b (i + 2), b (i + 3), b (i + 4), b (i + 5), b (i + 6), b (i + 7))

when_then : {A B : Type 0} (t : Bool) (v : A) (f : A → Option B) (x : B) → and_then (unless t (Some v)) f ≡ Some x → (t ≡ true) × (f v ≡ Some x)
when_then true v f x p = (refl, p)
when_then false v f x p = absurd (none-some x p)

pub engine_then : {B : Type 0} (y : Yard) (n : ℕ) (f : Engine → Option B) (x : B) → and_then (engine_of y n) f ≡ Some x
    → (n < y.engines) × (f (record { 0 = n }) ≡ Some x)
engine_then y n f x p = let w = when_then (ltb n y.engines) (record { 0 = n }) f x p in (ltb-true n y.engines w.0, w.1)

pub section_then : {B : Type 0} (y : Yard) (b p : ℕ) (f : Section → Option B) (x : B) → and_then (section_of y b p) f ≡ Some x
    → ((b < y.boxes) × (p < 64)) × (f (record { keeper = record { 0 = b }; place = p }) ≡ Some x)
section_then y b p f x is =
    let w = when_then (ltb b y.boxes && ltb p 64) (record { keeper = record { 0 = b }; place = p }) f x is in
    let t = and_parts (ltb b y.boxes) (ltb p 64) w.0 in
    ((ltb-true b y.boxes t.0, ltb-true p 64 t.1), w.1)

-- a message that is in range and is written so
abbrev From : Yard → List ℕ → Message → Type 0
From y xs m = MessageIn y m × (bytes_of m ≡ xs)

pub call_got : (y : Yard) (a : Act) (xs : List ℕ) (c : Call) → Bytes xs → call_of y a xs ≡ Some c → CallIn y c × (call_bytes c ≡ act_byte a ∷ xs)
call_got y a xs c b is =
    let w = when (eqb (length xs) 7) _ c is in
    let e = engine_then y (get_or xs 0 0) _ c w.1 in
    let s = section_then y (get_or xs 1 0) (get_or xs 2 0) _ c e.1 in
    let P : Call → Type 0 = λ x. CallIn y x × (call_bytes x ≡ act_byte a ∷ xs) in
    subst P (same_Some _ c s.1) (
      (e.0, s.0, four_lt xs 3 b),
      ap (λ (l : List ℕ). act_byte a ∷ get_or xs 0 0 ∷ get_or xs 1 0 ∷ get_or xs 2 0 ∷ l) (four_at_lem xs 3 b) ∙ ap (λ (l : List ℕ). act_byte a ∷ l) (sym (spelled 7 xs w.0)),
    )

which_got : (y : Yard) (xs : List ℕ) (m : Message) → which_of y xs ≡ Some m → From y (6 ∷ xs) m
which_got y xs m is =
    let w = when (eqb (length xs) 3) _ m is in
    let e = engine_then y (get_or xs 0 0) _ m w.1 in
    let s = section_then y (get_or xs 1 0) (get_or xs 2 0) _ m e.1 in
    let P : Message → Type 0 = From y (6 ∷ xs) in
    subst P (same_Some _ m s.1) ((e.0, s.0), ap (λ (l : List ℕ). 6 ∷ l) (sym (spelled 3 xs w.0)))

change_got : (y : Yard) (xs : List ℕ) (m : Message) → Bytes xs → change_of y xs ≡ Some m → From y (5 ∷ xs) m
change_got y xs m b is =
    let w = when (eqb (length xs) 7) _ m is in
    let s = section_then y (get_or xs 0 0) (get_or xs 1 0) _ m w.1 in
    let g = got (holder_of y (get_or xs 2 0)) _ m s.1 in
    let h = holder_got y (get_or xs 2 0) g.0 g.1.0 in
    let P : Message → Type 0 = From y (5 ∷ xs) in
    subst P (same_Some _ m g.1.1) (
      (s.0, h.0, four_lt xs 3 b),
      ap (λ (l : List ℕ). 5 ∷ get_or xs 0 0 ∷ get_or xs 1 0 ∷ holder_byte g.0 ∷ l) (four_at_lem xs 3 b)
          ∙ (ap (λ (n : ℕ). 5 ∷ get_or xs 0 0 ∷ get_or xs 1 0 ∷ n ∷ get_or xs 3 0 ∷ get_or xs 4 0 ∷ get_or xs 5 0 ∷ get_or xs 6 0 ∷ []) h.1
          ∙ ap (λ (l : List ℕ). 5 ∷ l) (sym (spelled 7 xs w.0))),
    )

sign_got : (y : Yard) (xs : List ℕ) (m : Message) → Bytes xs → sign_of y xs ≡ Some m → From y (7 ∷ xs) m
sign_got y xs m b is =
    let w = when (eqb (length xs) 14) _ m is in
    let t = engine_then y (get_or xs 0 0) _ m w.1 in
    let e = engine_then y (get_or xs 5 0) _ m t.1 in
    let P : Message → Type 0 = From y (7 ∷ xs) in
    subst P (same_Some _ m e.1) (
      (t.0, four_lt xs 1 b, e.0, eight_lt xs 6 b),
      ap (λ (l : List ℕ). 7 ∷ get_or xs 0 0 ∷ l ++ (get_or xs 5 0 ∷ eight (eight_at xs 6))) (four_at_lem xs 1 b)
          ∙ (ap (λ (l : List ℕ). 7 ∷ get_or xs 0 0 ∷ get_or xs 1 0 ∷ get_or xs 2 0 ∷ get_or xs 3 0 ∷ get_or xs 4 0 ∷ get_or xs 5 0 ∷ l) (eight_at_lem xs 6 b)
          ∙ ap (λ (l : List ℕ). 7 ∷ l) (sym (spelled 14 xs w.0))),
    )

waits_got : (y : Yard) (xs : List ℕ) (m : Message) → Bytes xs → waits_of y xs ≡ Some m → From y (12 ∷ xs) m
waits_got y xs m b is =
    let w = when (eqb (length xs) 11) _ m is in
    let e = engine_then y (get_or xs 0 0) _ m w.1 in
    let s = section_then y (get_or xs 1 0) (get_or xs 2 0) _ m e.1 in
    let P : Message → Type 0 = From y (12 ∷ xs) in
    subst P (same_Some _ m s.1) (
      (e.0, s.0, four_lt xs 3 b, four_lt xs 7 b),
      ap (λ (l : List ℕ). 12 ∷ get_or xs 0 0 ∷ get_or xs 1 0 ∷ get_or xs 2 0 ∷ l ++ four (four_at xs 7)) (four_at_lem xs 3 b)
          ∙ (ap (λ (l : List ℕ). 12 ∷ get_or xs 0 0 ∷ get_or xs 1 0 ∷ get_or xs 2 0 ∷ get_or xs 3 0 ∷ get_or xs 4 0 ∷ get_or xs 5 0 ∷ get_or xs 6 0 ∷ l) (four_at_lem xs 7 b)
          ∙ ap (λ (l : List ℕ). 12 ∷ l) (sym (spelled 11 xs w.0))),
    )

places_then : (n i : ℕ) (xs : List ℕ) → i + n ≤ length xs → drop i xs ≡ places i n xs ++ drop (i + n) xs
places_then zero i xs is = ap (λ (k : ℕ). drop k xs) (omega arith)
places_then (suc n) i xs is =
    drop-cons xs i 0 (omega arith)
    ∙ ap (λ (l : List ℕ). get_or xs i 0 ∷ l) (places_then n (suc i) xs (omega arith) ∙ ap (λ (k : ℕ). places (suc i) n xs ++ drop k xs) (omega arith))

answer_got : (y : Yard) (xs : List ℕ) (m : Message) → Bytes xs → answer_of y xs ≡ Some m → From y (4 ∷ xs) m
answer_got y xs m b is =
    let w = when (leb 11 (length xs)) _ m is in
    let e = engine_then y (get_or xs 0 0) _ m w.1 in
    let g = got (reply_of (get_or xs 5 0) (drop 11 xs)) _ m e.1 in
    let r = reply_got (get_or xs 5 0) (drop 11 xs) g.0 g.1.0 in
    let f = got (holder_of y (get_or xs 6 0)) _ m g.1.1 in
    let h = holder_got y (get_or xs 6 0) f.0 f.1.0 in
    let P : Message → Type 0 = From y (4 ∷ xs) in
    subst P (same_Some _ m f.1.1) (
      (e.0, four_lt xs 1 b, r.0, h.0, four_lt xs 7 b),
      ap (λ (l : List ℕ). 4 ∷ get_or xs 0 0 ∷ l ++ (reply_byte g.0 ∷ holder_byte f.0 ∷ four (four_at xs 7) ++ reply_end g.0)) (four_at_lem xs 1 b)
          ∙ (ap (λ (l : List ℕ). 4 ∷ places 0 5 xs ++ (reply_byte g.0 ∷ holder_byte f.0 ∷ l ++ reply_end g.0)) (four_at_lem xs 7 b)
          ∙ (ap (λ (n : ℕ). 4 ∷ places 0 5 xs ++ (n ∷ holder_byte f.0 ∷ places 7 4 xs ++ reply_end g.0)) r.1
          ∙ (ap (λ (n : ℕ). 4 ∷ places 0 6 xs ++ (n ∷ places 7 4 xs ++ reply_end g.0)) h.1
          ∙ (ap (λ (l : List ℕ). 4 ∷ places 0 11 xs ++ l) r.2
          ∙ ap (λ (l : List ℕ). 4 ∷ l) (sym (places_then 11 0 xs (leb-true 11 (length xs) w.0))))))),
    )

pub by_kind : {A : Type 0} (k n : ℕ) (x o : Option A) (z : A) (P : ℕ → Type 0) → cond (eqb k n) x o ≡ Some z → (x ≡ Some z → P n) → (o ≡ Some z → P k) → P k
by_kind k n x o z P is f g =
    elim (branch (eqb k n) x o z is) [ inl q ↦ subst P (sym (eqb-true k n q.0)) (f q.1) | inr q ↦ g q.1 ]

called_got : (y : Yard) (a : Act) (xs : List ℕ) (m : Message) → Bytes xs → calling (call_of y a xs) ≡ Some m → From y (act_byte a ∷ xs) m
called_got y a xs m b is =
    let g = got (call_of y a xs) _ m is in
    let P : Message → Type 0 = From y (act_byte a ∷ xs) in
    subst P (same_Some _ m g.1.1) (call_got y a xs g.0 b g.1.0)

kind_got : (y : Yard) (k : ℕ) (xs : List ℕ) (m : Message) → Bytes xs → kind_of y k xs ≡ Some m → From y (k ∷ xs) m
kind_got y k xs m b is =
    let P : ℕ → Type 0 = λ n. From y (n ∷ xs) m in
    by_kind k 1 _ _ m P is (called_got y act.Take xs m b) (λ p1.
    by_kind k 2 _ _ m P p1 (called_got y act.Free xs m b) (λ p2.
    by_kind k 3 _ _ m P p2 (called_got y act.GiveUp xs m b) (λ p3.
    by_kind k 4 _ _ m P p3 (answer_got y xs m b) (λ p4.
    by_kind k 5 _ _ m P p4 (change_got y xs m b) (λ p5.
    by_kind k 6 _ _ m P p5 (which_got y xs m) (λ p6.
    by_kind k 7 _ _ m P p6 (sign_got y xs m b) (λ p7.
    by_kind k 12 _ _ m P p7 (waits_got y xs m b) (λ p8. absurd (none-some m p8)))))))))

pub one_form : OneForm
one_form y [] m b is = absurd (none-some m is)
one_form y (k ∷ xs) m b is = kind_got y k xs m (λ i. b (suc i)) (when (leb 1 (suc (length xs))) (kind_of y k xs) m is).1
