-- A keeper in shape: a call of an engine of the yard leaves its tables whole and its numbers within their bytes.
use Rattle.std.specs.Prelude.{None, Some}
use Rattle.std.proofs.Common.{◌≡◌, ℕ, ◌+◌, ◌^◌, ◌<◌, true, eqb, ◌⊎◌, [], length, Some, None, Ok, Err, Option, Result, sym, refl, ◌∙◌, subst, inl, inr, arith, length-set}
use Rattle.std.proofs.lemmas.Bool.{cond_both, ltb-true}
use Rattle.messages.specs.declared.yard.Yard.{Yard}
use Rattle.messages.specs.declared.message.Act.{Act}
use Rattle.messages.specs.declared.message.Act.TheVariants as act
use Rattle.messages.specs.declared.message.Call.{Call}
use Rattle.messages.specs.Range.{CallIn}
use Rattle.sections.specs.declared.Done.{Done}
use Rattle.sections.specs.declared.Done.TheVariants as did
use Rattle.sections.specs.Table.{Holder}
use Rattle.sections.specs.declared.Refusal.{Refusal}
use Rattle.sections.specs.declared.Refusal.TheVariants as refused
use Rattle.sections.specs.Table.{
  Outcome,
  Section,
  Table,
  change_number_at,
  changeable,
  free_by,
  free_outcome,
  give_up_outcome,
  idle,
  is_in,
  known,
  refusal_of,
  place_at,
  settle,
  take_by,
  take_outcome,
  unless,
}
use Rattle.sections.proofs.Tables.{put_read, set_read, settle_length}
use Rattle.keeper.specs.declared.LastCall.{LastCall}
use Rattle.keeper.specs.declared.Verdict.{Verdict}
use Rattle.keeper.specs.declared.Verdict.TheVariants as verdict
use Rattle.keeper.specs.Model.{State, fresh, last_of, never}
use Rattle.keeper.specs.Calls.{answer_of, ask_of, call_of, do_by, numbered_of, tried_of, used_of}
use Rattle.keeper.specs.Words.{verdict_of}
use Rattle.keeper.specs.Range.{VerdictIn, Within}
use Rattle.keeper.proofs.Reach.{stays_in_yard, stays_within}
use Rattle.box_laws.proofs.Homes.{everywhere}

-- a last call whose numbers fit their bytes
abbrev pub LastIn : LastCall → Type 0
LastIn last = (last.number < 2 ^ 32) × (last.answer.change < 2 ^ 32)

pub record KeeperShape (y : Yard) (k : State) : Type 0 where
  pub table : length k.table ≡ 64
  pub calls : length k.calls ≡ 64
  pub within : Within y k
  pub changes : (place : ℕ) → change_number_at k.table place < 2 ^ 32
  pub lasts : (e : ℕ) → LastIn (last_of k e)

-- what a verdict answers has a change number that fits its bytes
abbrev pub ChangeIn : Verdict → Type 0
ChangeIn verdict.Malformed = Unit {0}
ChangeIn verdict.PassedOver = Unit {0}
ChangeIn (verdict.Again a) = a.change < 2 ^ 32
ChangeIn (verdict.AtLimit a) = a.change < 2 ^ 32
ChangeIn (verdict.Refused r a) = a.change < 2 ^ 32
ChangeIn (verdict.Done a) = a.change < 2 ^ 32
ChangeIn (verdict.PassedOn a) = a.change < 2 ^ 32

abbrev OutcomeIn : Outcome → Type 0
OutcomeIn (Ok (s, done)) = s.change < 2 ^ 32
OutcomeIn (Err r) = Unit {0}

room : (s : Section) → changeable s ≡ true → s.change + 1 < 2 ^ 32
room s h = let z = ltb-true s.change 4294967295 h in omega arith

take_in : (by : Holder) (s : Section) (e : ℕ) → s.change < 2 ^ 32 → OutcomeIn (take_by by s e)
take_in None s e i = cond_both (changeable s) _ _ OutcomeIn (λ h. room s h) (λ _. tt)
take_in (Some f) s e i = cond_both (eqb f e) _ _ OutcomeIn (λ _. tt) (λ _. i)

free_in : (by : Holder) (s : Section) (e : ℕ) → OutcomeIn (free_by by s e)
free_in None s e = tt
free_in (Some f) s e = cond_both (eqb f e) _ _ OutcomeIn (λ _. cond_both (changeable s) _ _ OutcomeIn (λ h. room s h) (λ _. tt)) (λ _. tt)

unless_in : (r : Option Refusal) (o : Outcome) → OutcomeIn o → OutcomeIn (unless r o)
unless_in (Some r) o i = tt
unless_in None o i = i

abbrev Changes : Table → Type 0
Changes t = (place : ℕ) → change_number_at t place < 2 ^ 32

abbrev Small : Section → Type 0
Small s = s.change < 2 ^ 32

settle_in : (t : Table) (p : ℕ) (o : Outcome) → Changes t → OutcomeIn o → Changes (settle t p o).0
settle_in t p (Ok (s, done)) all i q = elim (put_read t p s q) [ inl r ↦ subst Small (sym r.1) i | inr r ↦ subst Small (sym r) (all q) ]
settle_in t p (Err r) all i q = all q

do_in : (a : Act) (t : Table) (e p : ℕ) → Changes t → Changes (do_by a t e p).0
do_in act.Take t e p all = settle_in t p (take_outcome t e p) all (unless_in (refusal_of t e p) _ (take_in (place_at t p).has (place_at t p) e (all p)))
do_in act.Free t e p all = settle_in t p (free_outcome t e p) all (unless_in (refusal_of t e p) _ (free_in (place_at t p).has (place_at t p) e))
do_in act.GiveUp t e p all =
    settle_in t p (give_up_outcome t e p) all
    (cond_both (known e p) _ _ OutcomeIn (λ _. cond_both (is_in e (place_at t p).queue) _ _ OutcomeIn (λ _. all p) (λ _. tt)) (λ _. tt))

do_long : (a : Act) (t : Table) (e p : ℕ) → length (do_by a t e p).0 ≡ length t
do_long act.Take t e p = settle_length t p (take_outcome t e p)
do_long act.Free t e p = settle_length t p (free_outcome t e p)
do_long act.GiveUp t e p = settle_length t p (give_up_outcome t e p)

verdict_change : (t : Table) (p : ℕ) (r : Result Done Refusal) → Changes t → ChangeIn (verdict_of (answer_of t p r) r)
verdict_change t p (Ok did.Had) all = all p
verdict_change t p (Ok (did.Waits x)) all = all p
verdict_change t p (Ok (did.LetGo None)) all = all p
verdict_change t p (Ok (did.LetGo (Some x))) all = all p
verdict_change t p (Ok did.Left) all = all p
verdict_change t p (Err refused.OutOfRange) all = tt
verdict_change t p (Err refused.Waiting) all = all p
verdict_change t p (Err refused.Mismatch) all = all p
verdict_change t p (Err refused.AtLimit) all = all p

used_in : (last : LastCall) (n : ℕ) (v : Verdict) → LastIn last → n < 2 ^ 32 → ChangeIn v → LastIn (used_of last n v)
used_in last n verdict.Malformed i small v = i
used_in last n verdict.PassedOver i small v = i
used_in last n (verdict.Again a) i small v = i
used_in last n (verdict.AtLimit a) i small v = i
used_in last n (verdict.Refused r a) i small v = (small, v)
used_in last n (verdict.Done a) i small v = (small, v)
used_in last n (verdict.PassedOn a) i small v = (small, v)

-- a keeper whole, but for whom it names
abbrev Whole : State × Verdict → Type 0
Whole p =
    (length p.0.table ≡ 64) × (length p.0.calls ≡ 64) × Changes p.0.table × ((e : ℕ) → LastIn (last_of p.0 e)) × ChangeIn p.1

-- a fact of a call that is passed over, answered again, put to the sections or malformed is a fact of every call
pub call_cases : (k : State) (c : Call) (P : State × Verdict → Type 0) → P (k, verdict.Malformed) → P (k, verdict.PassedOver) → P (k, verdict.Again (last_of k c.engine.0).answer) → P (tried_of k c) →
    P (call_of k c)
call_cases k c P malformed passed again tried =
    cond_both (known c.engine.0 c.section.place) _ _ P
    (λ _. cond_both (eqb c.number 0) _ _ (λ t. P (numbered_of t k c)) (λ _. passed)
    (λ _. cond_both (eqb c.number (last_of k c.engine.0).number) _ _ (λ t. P (numbered_of t k c)) (λ _. again)
    (λ _. cond_both (eqb c.number ((last_of k c.engine.0).number + 1)) _ _ (λ t. P (numbered_of t k c)) (λ _. tried) (λ _. passed))))
    (λ _. malformed)

-- a call leaves the sections as they were, or they take their own step for it
pub call_table : (k : State) (c : Call) → ((call_of k c).0.table ≡ k.table) ⊎ ((call_of k c).0.table ≡ (ask_of k.table c).0)
call_table k c = call_cases k c (λ p. (p.0.table ≡ k.table) ⊎ (p.0.table ≡ (ask_of k.table c).0)) (inl refl) (inl refl) (inl refl) (inr refl)

-- a call leaves the tables their lengths
pub call_whole : (k : State) (c : Call) → (length k.calls ≡ 64) × (length k.table ≡ 64) → (length (call_of k c).0.calls ≡ 64) × (length (call_of k c).0.table ≡ 64)
call_whole k c whole =
    call_cases k c (λ p. (length p.0.calls ≡ 64) × (length p.0.table ≡ 64)) whole whole whole
    (length-set k.calls c.engine.0 _ ∙ whole.0, do_long c.act k.table c.engine.0 c.section.place ∙ whole.1)

-- a call leaves the keeper in shape, and its verdict can be answered
pub call_shape : (y : Yard) (k : State) (c : Call) → KeeperShape y k → CallIn y c → KeeperShape y (call_of k c).0 × VerdictIn y (call_of k c).1 × ChangeIn (call_of k c).1
call_shape y k c i ci =
    let w = call_cases k c Whole (i.table, i.calls, i.changes, i.lasts, tt) (i.table, i.calls, i.changes, i.lasts, tt) (i.table, i.calls, i.changes, i.lasts, (i.lasts c.engine.0).1) tried in
    let v = stays_within k i.calls i.table c y ci.0 i.within in
    (record { table = w.0; calls = w.1; within = v.0; changes = w.2; lasts = w.3 }, v.1, w.4)
  where
    tried : Whole (tried_of k c)
    tried =
        let asked = ask_of k.table c in
        let all : Changes asked.0 = do_in c.act k.table c.engine.0 c.section.place i.changes in
        let vi = verdict_change asked.0 c.section.place asked.1 all in
        let x = used_of (last_of k c.engine.0) c.number (verdict_of (answer_of asked.0 c.section.place asked.1) asked.1) in
        let xi : LastIn x = used_in (last_of k c.engine.0) c.number (verdict_of (answer_of asked.0 c.section.place asked.1) asked.1) (i.lasts c.engine.0) ci.2 vi in (
          do_long c.act k.table c.engine.0 c.section.place ∙ i.table,
          length-set k.calls c.engine.0 x ∙ i.calls,
          all,
          λ e. elim (set_read never k.calls c.engine.0 x e) [ inl r ↦ subst LastIn (sym r.1) xi | inr r ↦ subst LastIn (sym r) (i.lasts e) ],
          vi,
        )

pub fresh_keeper_shape : (y : Yard) → KeeperShape y fresh
fresh_keeper_shape y =
    record {
      table = refl;
      calls = refl;
      within = stays_in_yard y [] tt;
      changes = λ p. subst (λ (s : Section). s.change < 2 ^ 32) (sym (everywhere 64 idle p)) (omega arith);
      lasts = λ e. subst LastIn (sym (everywhere 64 never e)) (omega arith, omega arith);
    }
