-- How many bytes the first records take, and that records stored after some that are all there leave those there.
use Rattle.std.proofs.Common.{◌≡◌, ℕ, zero, suc, ◌+◌, ◌≤◌, min, true, false, cond, List, [], ◌∷◌, ◌++◌, length, take, sum_by, Ok, Err, Result, sym, refl, ap, ◌∙◌, subst, append-nil, arith, length-append, MatchResult}
use Rattle.std.proofs.lemmas.List.{take_all, take_min}
use Rattle.std.proofs.lemmas.List.Sums.{sum_by-cons}
use Rattle.messages.specs.declared.message.Record.{Record}
use Rattle.messages.specs.Journal.{written}
use Rattle.messages.specs.Table.{record_bytes}
use Rattle.journal.specs.Storage.{Remains}
use Rattle.journal.specs.declared.output.Output.TheVariants as output
use Rattle.home.specs.declared.home.Home.{Home}
use Rattle.home.specs.Queries.{engine, giving_back_at}
use Rattle.boxes.specs.Handle.{reminder_for, reminders_of}
use Rattle.boxes.specs.Log.{Log, each, none, said}

-- the bytes of records are those of each
each_counted : (rs : List Record) → sum_by (λ r. length (record_bytes r)) rs ≡ length (written rs)
each_counted [] = refl
each_counted (r ∷ rs) =
    sum_by-cons (λ q. length (record_bytes q)) r rs ∙ (ap (λ n. length (record_bytes r) + n) (each_counted rs) ∙ sym (length-append (record_bytes r) (written rs)))

-- the bytes of the first records, be there so many or not
pub first_counted : (rs : List Record) (i k : ℕ) → k ≡ min i (length rs) → sum_by (λ r. length (record_bytes r)) (take k rs) ≡ length (written (take i rs))
first_counted rs i k e = each_counted (take k rs) ∙ ap (λ qs. length (written qs)) (ap (λ n. take n rs) e ∙ take_min i rs)

-- the first records take no more bytes than all
pub at_most_all : (rs : List Record) (i : ℕ) → length (written (take i rs)) ≤ length (written rs)
at_most_all [] zero = omega arith
at_most_all [] (suc i) = omega arith
at_most_all (r ∷ rs) zero = omega arith
at_most_all (r ∷ rs) (suc i) =
    omega (arith, at_most_all rs i, length-append (record_bytes r) (written (take i rs)), length-append (record_bytes r) (written rs))

-- what remains of bytes that are all synced is all of them
pub all_remain : (holds : List ℕ → ℕ → Type 0) (xs ys : List ℕ) → ys ≡ xs ++ [] → Remains holds ys (length xs) → holds xs (length xs)
all_remain holds xs ys e (k, l, h) =
    let P : List ℕ → Type 0 = λ zs. holds zs (length xs) in
    subst P (ap (take k) (e ∙ append-nil xs) ∙ take_all k xs l) h

-- a commit without records leaves the file as it was, whatever it answers
pub kept_whole : {A B : Type 0} (holds : List ℕ → ℕ → Type 0) (xs : List ℕ) (rs : List Record) (r : Result A B) → rs ≡ []
    → MatchResult r (λ _. holds (xs ++ written rs) (length (xs ++ written rs))) (λ _. Remains holds (xs ++ written rs) (length xs)) → holds xs (length xs)
kept_whole holds xs rs (Ok a) e h =
    let P : List ℕ → Type 0 = λ zs. holds zs (length zs) in
    subst P (ap (λ qs. xs ++ written qs) e ∙ append-nil xs) h
kept_whole holds xs rs (Err b) e h = all_remain holds xs (xs ++ written rs) (ap (λ qs. xs ++ written qs) e) h

-- a reminder is said, not recorded
none_so_far : (h : Home) (n : ℕ) (l : Log) → (each (λ k. reminder_for h (engine k)) n l).records ≡ l.records
unfolding each
none_so_far h zero l = refl
none_so_far h (suc n) l =
    elim (giving_back_at h (engine n)) as (λ b. (cond b (said (each (λ k. reminder_for h (engine k)) n l) (output.GivingBack (engine n))) (each (λ k. reminder_for h (engine k)) n l)).records ≡ l.records)
    [ true ↦ none_so_far h n l | false ↦ none_so_far h n l ]

pub none_recorded : (h : Home) → (reminders_of h none).records ≡ []
none_recorded h = none_so_far h h.yard.engines none
