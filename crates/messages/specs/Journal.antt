-- What bytes of a file are read as, one record after another. Assumes nothing.
use Rattle.std.specs.Prelude.{◌≡◌, ℕ, suc, ◌<◌, cond, List, [], ◌∷◌, ◌++◌, length, drop, Some, None, Ok, Err, vec_items, Option, Result, MatchOption, ◌==◌, ◌≢◌, nat_le, slice_index}
use Rattle.messages.specs.declared.yard.Yard.{Yard}
use Rattle.messages.specs.declared.message.Act.{Act}
use Rattle.messages.specs.declared.message.Act.TheVariants as act
use Rattle.messages.specs.declared.message.Call.{Call}
use Rattle.messages.specs.declared.message.Record.{Record}
use Rattle.messages.specs.declared.message.Record.TheVariants as journal
use Rattle.messages.specs.declared.records.First.{First}
use Rattle.messages.specs.declared.records.First.TheVariants as first
use Rattle.messages.specs.declared.records.Replay.{Replay}
use Rattle.messages.specs.declared.records.Unread.{Unread}
use Rattle.messages.specs.declared.records.Unread.TheVariants as unread
use Rattle.messages.specs.Range.{RecordIn}
use Rattle.messages.specs.Reading.{and_then, call_of, eight_at, engine_of, four_at, section_of, unless}
use Rattle.messages.specs.Table.{record_bytes}

abbrev pub act_of : ℕ → Option Act
act_of n = cond (n == 1) (Some act.Take) (cond (n == 2) (Some act.Free) (cond (n == 3) (Some act.GiveUp) None))

-- a call's first byte and the rest of it
abbrev pub whole_call : Yard → List ℕ → Option Call
whole_call y xs = unless (nat_le 1 (length xs)) (and_then (act_of (slice_index xs 0)) (λ a. call_of y a (drop 1 xs)))

abbrev pub beginning_of : Yard → List ℕ → Option Record
beginning_of y xs = unless (length xs == 20) (and_then (engine_of y (slice_index xs 0)) (λ e. and_then (section_of y (slice_index xs 1) (slice_index xs 2)) (λ s.
    and_then (engine_of y (slice_index xs 7)) (λ h. Some (journal.Beginning h (record { engine = e; section = s; count = four_at xs 8; change = four_at xs 3 }) (eight_at xs 12))))))

abbrev pub heard_of : Yard → List ℕ → Option Record
heard_of y xs = unless (length xs == 9) (and_then (engine_of y (slice_index xs 0)) (λ e. Some (journal.Heard e (eight_at xs 1))))

abbrev pub made_of : Yard → List ℕ → Option Record
made_of y xs = and_then (whole_call y xs) (λ c. Some (journal.Made c))

abbrev pub kept_of : Yard → List ℕ → Option Record
kept_of y xs = and_then (whole_call y xs) (λ c. Some (journal.Kept c))

-- by the first byte: a beginning, a sign heard, a call made, or a call kept, which begins with the call's own first byte
abbrev pub record_kind : Yard → ℕ → List ℕ → Option Record
record_kind y k xs = cond (k == 8) (beginning_of y xs) (cond (k == 9) (heard_of y xs) (cond (k == 10) (made_of y xs) (kept_of y (k ∷ xs))))

-- what bytes are read as: the whole of them is one record, or it is none
abbrev pub record_of : Yard → List ℕ → Option Record
record_of y xs = unless (nat_le 1 (length xs)) (record_kind y (slice_index xs 0) (drop 1 xs))

-- how long a record is, by its first byte
abbrev pub size_of : ℕ → Option ℕ
size_of k = cond (k == 8) (Some 21) (cond (k == 9) (Some 10) (cond (k == 10) (Some 9)
    (cond (k == 1) (Some 8) (cond (k == 2) (Some 8) (cond (k == 3) (Some 8) None)))))

-- nothing, or the first byte of a record and less than the whole of it
abbrev pub Short : List ℕ → Type 0
Short [] = Unit {0}
Short (k ∷ xs) = MatchOption (size_of k) ⊥ (λ n. suc (length xs) < n)

-- what stands first in a file's bytes
abbrev pub FirstIs : Yard → List ℕ → First → Type 0
FirstIs y xs (first.Whole r n) = RecordIn y r × (record_bytes r ++ drop n xs ≡ xs) × (n ≡ length (record_bytes r))
FirstIs y xs first.Cut = Short xs
FirstIs y xs first.Damaged = (Short xs → ⊥) × ((r : Record) (rest : List ℕ) → RecordIn y r → record_bytes r ++ rest ≢ xs)

-- records, one after another
abbrev pub written : List Record → List ℕ
written [] = []
written (r ∷ rs) = record_bytes r ++ written rs

abbrev pub AllIn : Yard → List Record → Type 0
AllIn y [] = Unit {0}
AllIn y (r ∷ rs) = RecordIn y r × AllIn y rs

-- a file that has these records, and after them at most the beginning of one
abbrev pub Holds : Yard → List ℕ → List Record → List ℕ → Type 0
Holds y xs rs tail = AllIn y rs × (written rs ++ tail ≡ xs) × Short tail

-- every proper first part of a record's bytes is short
abbrev pub CutIsShort : Type 0
CutIsShort = (r : Record) (front rest : List ℕ) → front ++ rest ≡ record_bytes r → (rest ≢ []) → Short front

-- a file has one list of records, and one beginning after it
abbrev pub OneList : Type 0
OneList = (y : Yard) (xs : List ℕ) (rs qs : List Record) (t u : List ℕ) → Holds y xs rs t → Holds y xs qs u → (rs ≡ qs) × (t ≡ u)

-- what a file's bytes are read as: its records and their length, or where it is damaged
abbrev pub ReadIs : Yard → List ℕ → Result Replay Unread → Type 0
ReadIs y xs (Ok p) = Holds y xs (vec_items p.records) (drop p.length xs) × (p.length ≡ length (written (vec_items p.records)))
ReadIs y xs (Err (unread.Damaged at)) = ((rs : List Record) (t : List ℕ) → Holds y xs rs t → ⊥)
    × ((rs : List Record) × (AllIn y rs × (written rs ++ drop at xs ≡ xs) × (at ≡ length (written rs)) × FirstIs y (drop at xs) first.Damaged))
ReadIs y xs (Err unread.NoMemory) = Unit {0}

-- the answer of a reader that finds exactly these records, unless it had no memory
abbrev pub ReadAs : List Record → Result Replay Unread → Type 0
ReadAs rs (Ok p) = (vec_items p.records ≡ rs) × (p.length ≡ length (written rs))
ReadAs rs (Err (unread.Damaged at)) = ⊥
ReadAs rs (Err unread.NoMemory) = Unit {0}

-- records followed by any proper first part of a record are read as those records and their length;
-- and whatever is read as those records is those records, with at most the beginning of one after them
abbrev pub CutReadsBack : Type 0
CutReadsBack = (y : Yard) (rs : List Record) → AllIn y rs
    → ((q : Record) (front rest : List ℕ) → front ++ rest ≡ record_bytes q → (rest ≢ []) → (a : Result Replay Unread) → ReadIs y (written rs ++ front) a → ReadAs rs a)
    × ((xs : List ℕ) (p : Replay) → ReadIs y xs (Ok p) → vec_items p.records ≡ rs
    → (p.length ≡ length (written rs)) × (written rs ++ drop p.length xs ≡ xs) × Short (drop p.length xs))
