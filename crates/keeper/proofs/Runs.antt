-- Over lists of calls: by induction on what one call keeps to.
use Rattle.std.proofs.Common.{◌≡◌, ℕ, ◌+◌, ◌<◌, Bool, true, false, cond, List, [], ◌∷◌, ◌++◌, length, Ok, Err, sym, refl, ap, ◌∙◌, inl, inr, arith, length-set}
use Rattle.messages.specs.declared.message.Act.{Act}
use Rattle.messages.specs.declared.message.Act.TheVariants as act
use Rattle.messages.specs.declared.message.Call.{Call}
use Rattle.sections.specs.Table.{Outcome, Table, free_outcome, give_up_outcome, settle, take_outcome}
use Rattle.messages.specs.declared.message.Answer.{Answer}
use Rattle.keeper.specs.declared.LastCall.{LastCall}
use Rattle.keeper.specs.declared.Verdict.{Verdict}
use Rattle.keeper.specs.declared.Verdict.TheVariants as verdict
use Rattle.keeper.specs.declared.calls.Turn.{Turn}
use Rattle.keeper.specs.declared.calls.Turn.TheVariants as turn
use Rattle.keeper.specs.Model.{State, last_of}
use Rattle.keeper.specs.Calls.{apply_of, call_of, do_by, numbered_of}
use Rattle.keeper.specs.Promise.{Followed, IsNext, Risen, UsedUp}
use Rattle.keeper.specs.Runs.{AlwaysAnswerStands, AllNext, NumbersRise, NoneFollows, AlwaysReplays, after, is_recorded, records}
use Rattle.keeper.proofs.OneCall.{Means, by_cases, followed, repeated, risen}

settle_long : (t : Table) (p : ℕ) (o : Outcome) → length t ≡ 64 → length (settle t p o).0 ≡ 64
settle_long t p (Ok (s, done)) h = length-set t p s ∙ h
settle_long t p (Err x) h = h

do_long : (a : Act) (t : Table) (e p : ℕ) → length t ≡ 64 → length (do_by a t e p).0 ≡ 64
do_long act.Take t e p = settle_long t p (take_outcome t e p)
do_long act.Free t e p = settle_long t p (free_outcome t e p)
do_long act.GiveUp t e p = settle_long t p (give_up_outcome t e p)

-- a keeper's tables have 64 places
abbrev Full : State → Type 0
Full k = (length k.calls ≡ 64) × (length k.table ≡ 64)

full_call : (k : State) (c : Call) → Full k → Full (call_of k c).0
full_call k c full = by_cases k full.0 full.1 c (λ s. Full s.0) full numbered
  where
    numbered : (c.engine.0 < 64) × (c.section.place < 64) → (t : Turn) → Means (last_of k c.engine.0).number c.number t → Full (numbered_of t k c).0
    numbered h turn.Last n = full
    numbered h turn.Next n = (length-set k.calls c.engine.0 _ ∙ full.0, do_long c.act k.table c.engine.0 c.section.place full.1)
    numbered h turn.Other n = full

pub full_after : (calls : List Call) → Full (after calls)
full_after [] = (refl, refl)
full_after (c ∷ calls) = full_call (after calls) c (full_after calls)

risen_after : (calls : List Call) (c : Call) → Risen (after calls) c (after (c ∷ calls))
risen_after calls c = let full = full_after calls in risen (after calls) full.0 full.1 c

-- the last call stays the last
still : (earlier later : List Call) (c : Call) (a : Answer) → UsedUp (after earlier) c a → NoneFollows c later → UsedUp (after (later ++ earlier)) c a
still earlier [] c a u none = u
still earlier (d ∷ later) c a u none =
    let v : UsedUp (after (later ++ earlier)) c a = still earlier later c a u none.1 in
    elim (risen_after (later ++ earlier) d c.engine.0) [
      | inl q ↦ q ∙ v
      | inr q ↦ absurd (none.0 (sym q.0) (q.1 ∙ ap (λ e. (last_of (after (later ++ earlier)) e).number + 1) (sym q.0) ∙ ap (λ (x : LastCall). x.number + 1) v))
    ]

pub answer_stands : AlwaysAnswerStands
answer_stands earlier later c a h n u none =
    let k = after (later ++ earlier) in
    let full = full_after (later ++ earlier) in
    repeated k full.0 full.1 c k a h (λ z. omega arith) (still earlier later c a u none)

pub numbers_rise : NumbersRise
numbers_rise earlier [] e = omega arith
numbers_rise earlier (d ∷ later) e =
    let rest = numbers_rise earlier later e in
    elim (risen_after (later ++ earlier) d e) [
      | inl q ↦ let same = ap (λ (x : LastCall). x.number) q in omega arith
      | inr q ↦ let here = ap (λ i. (last_of (after (later ++ earlier)) i).number) q.0 in let next = q.1 in let now = q.2 in omega arith
    ]

-- what isn't recorded changes nothing; what is has the next number
unrecorded : (k : State) (c : Call) (s : State) (v : Verdict) → Followed k c s v → is_recorded v ≡ false → s ≡ k
unrecorded k c s verdict.Malformed f h = f
unrecorded k c s verdict.PassedOver f h = f.0
unrecorded k c s (verdict.Again a) f h = f.0
unrecorded k c s (verdict.AtLimit a) f h = f.0
unrecorded k c s (verdict.Refused r a) f h = cc
unrecorded k c s (verdict.Done a) f h = cc
unrecorded k c s (verdict.PassedOn a) f h = cc

recorded : (k : State) (c : Call) (s : State) (v : Verdict) → Followed k c s v → is_recorded v ≡ true → IsNext k c
recorded k c s verdict.Malformed f h = cc
recorded k c s verdict.PassedOver f h = cc
recorded k c s (verdict.Again a) f h = cc
recorded k c s (verdict.AtLimit a) f h = cc
recorded k c s (verdict.Refused r a) f h = f.1
recorded k c s (verdict.Done a) f h = f.0
recorded k c s (verdict.PassedOn a) f h = f.0.0

replays_more : (calls : List Call) (c : Call) → (after (records calls) ≡ after calls) × AllNext (records calls) → (b : Bool) → is_recorded (call_of (after calls) c).1 ≡ b →
    (after (cond b (c ∷ records calls) (records calls)) ≡ after (c ∷ calls)) × AllNext (cond b (c ∷ records calls) (records calls))
replays_more calls c rest true h =
    let full = full_after calls in
    let next = recorded (after calls) c (call_of (after calls) c).0 (call_of (after calls) c).1 (followed (after calls) full.0 full.1 c) h in
    (ap (λ s. apply_of s c) rest.0, (next ∙ ap (λ s. (last_of s c.engine.0).number + 1) (sym rest.0), rest.1))
replays_more calls c rest false h =
    let full = full_after calls in
    (rest.0 ∙ sym (unrecorded (after calls) c (call_of (after calls) c).0 (call_of (after calls) c).1 (followed (after calls) full.0 full.1 c) h), rest.1)

pub replays : AlwaysReplays
replays [] = (refl, tt)
replays (c ∷ calls) = replays_more calls c (replays calls) (is_recorded (call_of (after calls) c).1) refl
