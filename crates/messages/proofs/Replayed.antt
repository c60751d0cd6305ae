-- A file has one list of records, so what a reader finds in records with a cut one behind them is those.
use Rattle.std.proofs.Common.{◌≡◌, ℕ, List, ◌++◌, length, drop, Ok, Err, vec_items, Result, refl, ap, ◌∙◌, subst}
use Rattle.messages.specs.declared.yard.Yard.{Yard}
use Rattle.messages.specs.declared.message.Record.{Record}
use Rattle.messages.specs.declared.records.Replay.{Replay}
use Rattle.messages.specs.declared.records.Unread.{Unread}
use Rattle.messages.specs.declared.records.Unread.TheVariants as unread
use Rattle.messages.specs.Journal.{CutReadsBack, Holds, ReadAs, ReadIs, Short, written}
use Rattle.messages.proofs.Fronts.{cut_is_short, one_list}

read_as : (y : Yard) (xs : List ℕ) (rs : List Record) (t : List ℕ) (a : Result Replay Unread) → Holds y xs rs t → ReadIs y xs a → ReadAs rs a
read_as y xs rs t (Ok p) h r =
    let same : vec_items p.records ≡ rs = (one_list y xs (vec_items p.records) rs (drop p.length xs) t r.0 h).0 in
    (same, r.1 ∙ ap (λ (qs : List Record). length (written qs)) same)
read_as y xs rs t (Err (unread.Damaged at)) h r = r.0 rs t h
read_as y xs rs t (Err unread.NoMemory) h r = tt

-- what is read is what the file holds
read_so : (y : Yard) (xs : List ℕ) (rs : List Record) (p : Replay) → ReadIs y xs (Ok p) → vec_items p.records ≡ rs
    → (p.length ≡ length (written rs)) × (written rs ++ drop p.length xs ≡ xs) × Short (drop p.length xs)
read_so y xs rs p r same =
    let P : List Record → Type 0 = λ qs. (p.length ≡ length (written qs)) × (written qs ++ drop p.length xs ≡ xs) × Short (drop p.length xs) in
    subst P same (r.1, r.0.1, r.0.2)

pub cut_reads_back : CutReadsBack
cut_reads_back y rs i =
    (λ q front rest is more a r. read_as y (written rs ++ front) rs front a (i, refl, cut_is_short q front rest is more) r, λ xs p r same. read_so y xs rs p r same)
