-- A record is read back from its bytes, and whatever is read was written so.
use Rattle.std.proofs.Common.{◌≡◌, ℕ, suc, eqb, leb, List, [], ◌∷◌, ◌++◌, length, get_or, Some, Option, sym, refl, ap, ◌∙◌, subst}
use Rattle.std.proofs.lemmas.Option.{none-some, same_Some}
use Rattle.messages.specs.declared.yard.Yard.{Yard}
use Rattle.messages.specs.declared.message.Act.{Act}
use Rattle.messages.specs.declared.message.Act.TheVariants as act
use Rattle.messages.specs.declared.message.Call.{Call}
use Rattle.messages.specs.declared.message.Record.{Record}
use Rattle.messages.specs.declared.message.Record.TheVariants as journal
use Rattle.messages.specs.Journal.{act_of, beginning_of, heard_of, kept_of, made_of, record_kind, record_of, whole_call}
use Rattle.messages.specs.Promises.{Bytes}
use Rattle.messages.specs.Range.{CallIn, RecordIn}
use Rattle.messages.specs.Reading.{and_then, call_of, eight_at, four_at}
use Rattle.messages.specs.Table.{act_byte, call_bytes, eight, four, record_bytes, two}
use Rattle.messages.proofs.Back.{call_back, engine_back, section_back}
use Rattle.messages.proofs.Forms.{by_kind, call_got, eight_at_lem, eight_lt, engine_then, four_at_lem, four_lt, got, places, section_then, spelled, when}
use Rattle.messages.proofs.Numbers.{eight_back, four_back}

act_back : (a : Act) → act_of (act_byte a) ≡ Some a
act_back act.Take = refl
act_back act.Free = refl
act_back act.GiveUp = refl

pub whole_back : (y : Yard) (c : Call) → CallIn y c → whole_call y (call_bytes c) ≡ Some c
whole_back y c i =
    ap (λ (o : Option Act). and_then o (λ a. call_of y a (c.engine.0 ∷ two c.section ++ four c.number))) (act_back c.act) ∙ call_back y c i

kept_kind : (y : Yard) (a : Act) (xs : List ℕ) → record_kind y (act_byte a) xs ≡ kept_of y (act_byte a ∷ xs)
kept_kind y act.Take xs = refl
kept_kind y act.Free xs = refl
kept_kind y act.GiveUp xs = refl

pub record_back : (y : Yard) (r : Record) → RecordIn y r → record_of y (record_bytes r) ≡ Some r
record_back y (journal.Kept c) i =
    kept_kind y c.act (c.engine.0 ∷ two c.section ++ four c.number) ∙ ap (λ (o : Option Call). and_then o (λ x. Some (journal.Kept x))) (whole_back y c i)
record_back y (journal.Made c) i = ap (λ (o : Option Call). and_then o (λ x. Some (journal.Made x))) (whole_back y c i)
record_back y (journal.Beginning holder waits own) i =
    rw (engine_back y waits.engine i.0, section_back y waits.section i.1, engine_back y holder i.3, four_back waits.change i.2, four_back waits.count i.4, eight_back own i.5)
record_back y (journal.Heard e s) i = rw (engine_back y e i.0, eight_back s i.1)

-- a record that is in range and is written so
abbrev Noted : Yard → List ℕ → Record → Type 0
Noted y xs r = RecordIn y r × (record_bytes r ≡ xs)

act_got : (k : ℕ) (a : Act) → act_of k ≡ Some a → act_byte a ≡ k
act_got k a is =
    let Q : ℕ → Type 0 = λ n. act_byte a ≡ n in
    by_kind k 1 _ _ a Q is (λ p. ap act_byte (sym (same_Some _ a p))) (λ p1.
    by_kind k 2 _ _ a Q p1 (λ p. ap act_byte (sym (same_Some _ a p))) (λ p2.
    by_kind k 3 _ _ a Q p2 (λ p. ap act_byte (sym (same_Some _ a p))) (λ p3. absurd (none-some a p3))))

pub whole_got : (y : Yard) (xs : List ℕ) (c : Call) → Bytes xs → whole_call y xs ≡ Some c → CallIn y c × (call_bytes c ≡ xs)
whole_got y [] c b is = absurd (none-some c is)
whole_got y (k ∷ xs) c b is =
    let w = when (leb 1 (suc (length xs))) _ c is in
    let g = got (act_of k) _ c w.1 in
    let q = call_got y g.0 xs c (λ i. b (suc i)) g.1.1 in
    (q.0, q.1 ∙ ap (λ (n : ℕ). n ∷ xs) (act_got k g.0 g.1.0))

beginning_got : (y : Yard) (xs : List ℕ) (r : Record) → Bytes xs → beginning_of y xs ≡ Some r → Noted y (8 ∷ xs) r
beginning_got y xs r b is =
    let w = when (eqb (length xs) 20) _ r is in
    let e = engine_then y (get_or xs 0 0) _ r w.1 in
    let s = section_then y (get_or xs 1 0) (get_or xs 2 0) _ r e.1 in
    let h = engine_then y (get_or xs 7 0) _ r s.1 in
    let P : Record → Type 0 = Noted y (8 ∷ xs) in
    subst P (same_Some _ r h.1) (
      (e.0, s.0, four_lt xs 3 b, h.0, four_lt xs 8 b, eight_lt xs 12 b),
      ap (λ (l : List ℕ). 8 ∷ places 0 3 xs ++ (l ++ (get_or xs 7 0 ∷ four (four_at xs 8) ++ eight (eight_at xs 12)))) (four_at_lem xs 3 b)
          ∙ (ap (λ (l : List ℕ). 8 ∷ places 0 8 xs ++ (l ++ eight (eight_at xs 12))) (four_at_lem xs 8 b)
          ∙ (ap (λ (l : List ℕ). 8 ∷ places 0 12 xs ++ l) (eight_at_lem xs 12 b)
          ∙ ap (λ (l : List ℕ). 8 ∷ l) (sym (spelled 20 xs w.0)))),
    )

heard_got : (y : Yard) (xs : List ℕ) (r : Record) → Bytes xs → heard_of y xs ≡ Some r → Noted y (9 ∷ xs) r
heard_got y xs r b is =
    let w = when (eqb (length xs) 9) _ r is in
    let e = engine_then y (get_or xs 0 0) _ r w.1 in
    let P : Record → Type 0 = Noted y (9 ∷ xs) in
    subst P (same_Some _ r e.1) (
      (e.0, eight_lt xs 1 b),
      ap (λ (l : List ℕ). 9 ∷ get_or xs 0 0 ∷ l) (eight_at_lem xs 1 b) ∙ ap (λ (l : List ℕ). 9 ∷ l) (sym (spelled 9 xs w.0)),
    )

made_got : (y : Yard) (xs : List ℕ) (r : Record) → Bytes xs → made_of y xs ≡ Some r → Noted y (10 ∷ xs) r
made_got y xs r b is =
    let g = got (whole_call y xs) _ r is in
    let q = whole_got y xs g.0 b g.1.0 in
    let P : Record → Type 0 = Noted y (10 ∷ xs) in
    subst P (same_Some _ r g.1.1) (q.0, ap (λ (l : List ℕ). 10 ∷ l) q.1)

kept_got : (y : Yard) (xs : List ℕ) (r : Record) → Bytes xs → kept_of y xs ≡ Some r → Noted y xs r
kept_got y xs r b is =
    let g = got (whole_call y xs) _ r is in
    let P : Record → Type 0 = Noted y xs in
    subst P (same_Some _ r g.1.1) (whole_got y xs g.0 b g.1.0)

pub record_form : (y : Yard) (xs : List ℕ) (r : Record) → Bytes xs → record_of y xs ≡ Some r → Noted y xs r
record_form y [] r b is = absurd (none-some r is)
record_form y (k ∷ xs) r b is =
    let c : Bytes xs = λ i. b (suc i) in
    let P : ℕ → Type 0 = λ n. Noted y (n ∷ xs) r in
    by_kind k 8 _ _ r P (when (leb 1 (suc (length xs))) (record_kind y k xs) r is).1 (beginning_got y xs r c) (λ p1.
    by_kind k 9 _ _ r P p1 (heard_got y xs r c) (λ p2.
    by_kind k 10 _ _ r P p2 (made_got y xs r c) (kept_got y (k ∷ xs) r b)))
