-- A file read on from its i-th record: one record, and then the rest.
use Rattle.std.specs.Option.{is_some, ok_or}
use Rattle.std.proofs.Common.{◌≡◌, ℕ, suc, ◌+◌, ◌<◌, ◌≤◌, Bool, true, false, cond, List, ◌∷◌, length, get_or, drop, Option, None, Some, Ok, Err, sym, refl, ap, ◌∙◌, add-one, drop-cons}
use Rattle.std.proofs.lemmas.List.{drop_all}
use Rattle.messages.specs.declared.message.Record.{Record}
use Rattle.boxes.specs.declared.opening.Unwritten.{Unwritten}
use Rattle.boxes.specs.Model.{State}
use Rattle.boxes.specs.Opening.{open_from, replay_of}

first_of : (r : Record) (rs : List Record) (i : ℕ) (b c : State) (ok : Bool) → ◌≡◌ {A = State × Bool} (c, ok) (replay_of b r) → open_from i (r ∷ rs) b ≡ cond ok (open_from (i + 1) rs c) (Err i)
unfolding open_from
first_of r rs i b c ok q =
    let one : (replay_of b r).1 ≡ ok = ap (λ (p : State × Bool). p.1) (sym q) in
    let two : (replay_of b r).0 ≡ c = ap (λ (p : State × Bool). p.0) (sym q) in
    rw (one, two) refl

pub one_more : (rs : List Record) (i : ℕ) (d : Record) (b c : State) (ok : Bool) → i < length rs → ◌≡◌ {A = State × Bool} (c, ok) (replay_of b (get_or rs i d)) →
    open_from i (drop i rs) b ≡ cond ok (open_from (i + 1) (drop (i + 1) rs) c) (Err i)
one_more rs i d b c ok h q = rw (drop-cons rs i d) (first_of (get_or rs i d) (drop (suc i) rs) i b c ok q ∙ rw add-one refl)

-- where the record could have been written, it goes on
pub goes_on : (rs : List Record) (i : ℕ) (d : Record) (b c : State) (o : Option (Unit {0})) (e : Unwritten) (u : Unit {0}) → i < length rs → ◌≡◌ {A = State × Bool} (c, is_some o) (replay_of b (get_or rs i d)) → ok_or o e ≡ Ok u →
    open_from i (drop i rs) b ≡ open_from (i + 1) (drop (i + 1) rs) c
goes_on rs i d b c (Some x) e u h q r = one_more rs i d b c true h q
goes_on rs i d b c None e u h q r = cc

-- where it couldn't, its index is the answer
pub stops : (rs : List Record) (i : ℕ) (d : Record) (b c : State) (o : Option (Unit {0})) (e : Unwritten) → i < length rs → ◌≡◌ {A = State × Bool} (c, is_some o) (replay_of b (get_or rs i d)) → ok_or o (record { index = i }) ≡ Err e →
    open_from i (drop i rs) b ≡ Err e.index
stops rs i d b c (Some x) e h q r = cc
stops rs i d b c None e h q r =
    let same : record { index = i } ≡ e = cc in
    one_more rs i d b c false h q ∙ ap (λ (x : Unwritten). Err x.index) same

pub none_left : (rs : List Record) (i : ℕ) (b : State) → length rs ≤ i → open_from i (drop i rs) b ≡ Ok b
unfolding open_from
none_left rs i b h = rw (drop_all i rs) refl
