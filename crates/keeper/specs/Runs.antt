-- What is promised after every list of calls to a keeper that begins with nothing. Assumes nothing.
use Rattle.std.specs.Prelude.{◌≡◌, ℕ, ◌+◌, ◌<◌, ◌≤◌, Bool, true, false, cond, List, [], ◌∷◌, ◌++◌, ◌≢◌}
use Rattle.messages.specs.declared.message.Call.{Call}
use Rattle.sections.specs.Table.{known}
use Rattle.messages.specs.declared.message.Answer.{Answer}
use Rattle.keeper.specs.declared.Verdict.{Verdict}
use Rattle.keeper.specs.declared.Verdict.TheVariants as verdict
use Rattle.keeper.specs.Model.{State, fresh, last_of}
use Rattle.keeper.specs.Calls.{apply_of, call_of}
use Rattle.keeper.specs.Promise.{IsNext, UsedUp}

-- the keeper after calls, the last of them first in the list
abbrev pub after : List Call → State
after [] = fresh
after (c ∷ calls) = apply_of (after calls) c

-- no call of the list is the one that follows on a call
abbrev pub NoneFollows : Call → List Call → Type 0
NoneFollows c [] = Unit {0}
NoneFollows c (d ∷ calls) = (d.engine.0 ≡ c.engine.0 → d.number ≢ c.number + 1) × NoneFollows c calls

-- 1. Until its engine's next call comes, the last one is answered as it was, whatever comes between, old calls and copies too; and nothing changes by it.
abbrev pub AlwaysAnswerStands : Type 0
AlwaysAnswerStands =
    (earlier later : List Call) (c : Call) (a : Answer) → known c.engine.0 c.section.place ≡ true → 0 < c.number → UsedUp (after earlier) c a → NoneFollows c later →
    call_of (after (later ++ earlier)) c ≡ (after (later ++ earlier), verdict.Again a)

-- 2. The number of an engine's last call never falls.
abbrev pub NumbersRise : Type 0
NumbersRise = (earlier later : List Call) (e : ℕ) → (last_of (after earlier) e).number ≤ (last_of (after (later ++ earlier)) e).number

-- does a call with this verdict use up its number; then it is recorded
abbrev pub is_recorded : Verdict → Bool
is_recorded verdict.Malformed = false
is_recorded verdict.PassedOver = false
is_recorded (verdict.Again a) = false
is_recorded (verdict.AtLimit a) = false
is_recorded (verdict.Refused r a) = true
is_recorded (verdict.Done a) = true
is_recorded (verdict.PassedOn a) = true

-- the records that calls make, the last of them first
abbrev pub records : List Call → List Call
records [] = []
records (c ∷ calls) = cond (is_recorded (call_of (after calls) c).1) (c ∷ records calls) (records calls)

-- each call of a list has the next number when it comes
abbrev pub AllNext : List Call → Type 0
AllNext [] = Unit {0}
AllNext (c ∷ calls) = IsNext (after calls) c × AllNext calls

-- 3. What is read back from the records is the keeper as it was, and no record is out of turn.
abbrev pub AlwaysReplays : Type 0
AlwaysReplays = (calls : List Call) → (after (records calls) ≡ after calls) × AllNext (records calls)
