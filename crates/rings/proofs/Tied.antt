-- What the code's definitions give is a step of the net: each test that the code passed is a premise of the step.
-- Assumes nothing.
use Rattle.std.proofs.Common.{◌≡◌, ℕ, ◌<◌, true, false, ◌&&◌, eqb, ltb, Ok, Result, sym, ap, arith, None, Some}
use mathlib.Core.List.Memᴰ
use mathlib.Core.List.{Memᴰ}
use Rattle.std.proofs.lemmas.Bool.{cond_both, and_parts, ltb-true, eqb-true, eqb-false}
use Rattle.std.proofs.lemmas.Bool.Decides.{nat_tests}
use Rattle.signs.specs.Signs.{Wait}
use Rattle.signs.specs.declared.Engine.{Engine}
use Rattle.signs.specs.declared.Refusal.{Refusal}
use Rattle.signs.specs.declared.Heard.{Heard}
use Rattle.signs.specs.declared.Heard.TheVariants.{TellOn, Found}
use Rattle.signs.specs.Signs.{begin_of, hear_of, find_of, begun, showing, idle, next_own, out_of_range, has_room, waits_by, is_for}
use Rattle.signs.proofs.Lowest.{own_is_lowest}
use Rattle.rings.specs.Net.{Tell, Net, with, Came, Step, begins, hears, finds}
use Rattle.rings.specs.Promise.{AlwaysCodeSteps}

in_range : (engines i j : ℕ) → out_of_range i engines j ≡ false → (i < engines) × (j < engines)
in_range engines i j q = (grind (arith, nat_tests), grind (arith, nat_tests))

ok_same : {A B : Type 0} {a b : A} → ◌≡◌ {A = Result A B} (Ok a) (Ok b) → a ≡ b
ok_same q = cc

begin_step : (engines : ℕ) (n : Net) (e : Engine) (i j : ℕ) → (n.engine i).wait ≡ None → begin_of (n.engine i) i engines j ≡ Ok e → Step engines n (with i e n)
begin_step engines n e i j free =
    let u : ℕ = next_own (n.engine i).shown i engines in
    cond_both (out_of_range i engines j) _ _ (λ (r : Result Engine Refusal). r ≡ Ok e → Step engines n (with i e n))
    (λ t q. cc)
    (λ known.
    cond_both (eqb j i) _ _ (λ (r : Result Engine Refusal). r ≡ Ok e → Step engines n (with i e n))
    (λ t q. cc)
    (λ other.
    cond_both (has_room (n.engine i) u) _ _ (λ (r : Result Engine Refusal). r ≡ Ok e → Step engines n (with i e n))
    (λ t q.
    let after : e ≡ begun (n.engine i) j u = cc in
    let below : i < engines = (in_range engines i j known).0 in
    let whom : j < engines = (in_range engines i j known).1 in
    rw after
    (begins n i j u below whom (λ p. eqb-false j i other (sym p)) free
    (own_is_lowest (n.engine i).shown i engines below).above
    (own_is_lowest (n.engine i).shown i engines below).leaves))
    (λ t q. cc)))

for_whom : (w : Wait) (j : ℕ) → is_for w j ≡ true → w ≡ Some j
for_whom None j q = cc
for_whom (Some k) j q = ap Some (eqb-true k j q)

-- what was told since the beginning that the engine still waits by
came : (n : Net) (t : Tell) → Memᴰ t n.sent → (n.engine t.to).count ≡ t.count → Came n t.to t.by t.sign
came n t h q = Memᴰ.cast (ap (λ (c : ℕ). record { to = t.to; count = c; by = t.by; sign = t.sign }) q) h

-- a telling that is not refused is of the present wait
of_wait : (n : Net) (t : Tell) → waits_by (n.engine t.to) t.by t.count ≡ true → ((n.engine t.to).wait ≡ Some t.by) × ((n.engine t.to).count ≡ t.count)
of_wait n t q =
    let both = and_parts (is_for (n.engine t.to).wait t.by) (eqb (n.engine t.to).count t.count) q in
    (for_whom (n.engine t.to).wait t.by both.0, eqb-true (n.engine t.to).count t.count both.1)

hear_step : (engines : ℕ) (n : Net) (e : Engine) (t : Tell) (s : ℕ) → Memᴰ t n.sent →
    hear_of (n.engine t.to) t.by t.count t.sign ≡ Ok (e, TellOn s) → Step engines n (with t.to e n)
hear_step engines n e t s h =
    let x : Engine = n.engine t.to in
    let P : Result (Engine × Heard) Refusal → Type 0 = λ r. r ≡ Ok (e, TellOn s) → Step engines n (with t.to e n) in
    cond_both (waits_by x t.by t.count) _ _ P
    (λ w.
    cond_both (ltb x.shown t.sign) _ _ P
    (λ up q.
    let after : e ≡ showing x t.sign = sym (ap (λ (z : Engine × Heard). z.0) (ok_same q)) in
    rw after
    (hears n t.to t.by t.sign (came n t h (of_wait n t w).1) (of_wait n t w).0 (ltb-true x.shown t.sign up)))
    (λ up q. cc (ap (λ (z : Engine × Heard). z.1) (ok_same q))))
    (λ w q. cc)

find_step : (engines : ℕ) (n : Net) (e : Engine) (t : Tell) → Memᴰ t n.sent →
    find_of (n.engine t.to) t.by t.count t.sign ≡ Ok (e, Found) → Step engines n (with t.to e n)
find_step engines n e t h =
    let x : Engine = n.engine t.to in
    let P : Result (Engine × Heard) Refusal → Type 0 = λ r. r ≡ Ok (e, Found) → Step engines n (with t.to e n) in
    cond_both (waits_by x t.by t.count) _ _ P
    (λ w.
    cond_both (eqb t.sign x.own && eqb x.shown x.own) _ _ P
    (λ own q.
    let after : e ≡ idle x = sym (ap (λ (z : Engine × Heard). z.0) (ok_same q)) in
    let both = and_parts (eqb t.sign x.own) (eqb x.shown x.own) own in
    rw after
    (finds n t.to t.by
    (rw (eqb-true t.sign x.own both.0) at (came n t h (of_wait n t w).1), (of_wait n t w).0, eqb-true x.shown x.own both.1)))
    (λ own q. cc (ap (λ (z : Engine × Heard). z.1) (ok_same q))))
    (λ w q. cc)

pub code_steps : AlwaysCodeSteps
code_steps engines n e =
    record { begins = begin_step engines n e; hears = hear_step engines n e; finds = find_step engines n e }
