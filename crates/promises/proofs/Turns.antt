-- Each step makes at most one call to the sections of one box: whoever stood before another does so still, since it can't be overtaken.
use Rattle.std.specs.Prelude.{Some}
use Rattle.std.proofs.Common.{◌≡◌, ℕ, true, false, not, ◌&&◌, eqb, ◌⊎◌, List, [], ◌∷◌, ◌++◌, sym, refl, ap, ◌∙◌, subst, inl, inr}
use Rattle.std.proofs.lemmas.Bool.{and_from, and_parts, both_ways, eq-eqb, eqb-true, not-true, or_cases, or_left, or_right}
use Rattle.messages.specs.declared.message.Act.{Act}
use Rattle.messages.specs.declared.message.Act.TheVariants as act
use Rattle.messages.specs.declared.message.Call.{Call}
use Rattle.sections.specs.Table.{Table, free_outcome, give_up_outcome, holder_at, is_in, queue_at, take_outcome}
use Rattle.sections.specs.Sound.{once}
use Rattle.sections.specs.Promise.{FirstServed, InTurn, ahead}
use Rattle.sections.proofs.Sound.{Sound, free_keeps, give_up_keeps, same_engine, settled, take_keeps}
use Rattle.sections.proofs.Turns.{first_served, free_fair, give_up_fair, in_turn, take_fair}
use Rattle.keeper.specs.Calls.{ask_of, do_by}
use Rattle.world.specs.Runs.{OneOf}
use Rattle.promises.specs.Steps.{Before}

-- QUEUES: before, as a test and as a cut
one_of_in : (i : ℕ) (front rest : List ℕ) → is_in i (front ++ i ∷ rest) ≡ true
one_of_in i [] rest = or_left (eqb i i) (is_in i rest) (eq-eqb i i refl)
one_of_in i (x ∷ front) rest = or_right (eqb x i) (is_in i (front ++ i ∷ rest)) (one_of_in i front rest)

is_in_lem : (i : ℕ) (q : List ℕ) → OneOf i q → is_in i q ≡ true
is_in_lem i q (front, rest, is) = ap (is_in i) is ∙ one_of_in i front rest

in_is : (i : ℕ) (q : List ℕ) → is_in i q ≡ true → OneOf i q
in_is i [] w = absurd (both_ways false refl w)
in_is i (x ∷ xs) w =
    elim (or_cases (eqb x i) (is_in i xs) w) [
      | inl here ↦ ([], xs, ap (λ (y : ℕ). y ∷ xs) (eqb-true x i here))
      | inr there ↦ let found = in_is i xs there in (x ∷ found.0, found.1, ap (λ (ys : List ℕ). x ∷ ys) found.2)
    ]

ahead_cut : (i j : ℕ) (front rest : List ℕ) → is_in j rest ≡ true → ahead i j (front ++ i ∷ rest) ≡ true
ahead_cut i j [] rest w = or_left (eqb i i && is_in j rest) (ahead i j rest) (and_from (eqb i i) (is_in j rest) (eq-eqb i i refl) w)
ahead_cut i j (x ∷ front) rest w = or_right (eqb x i && is_in j (front ++ i ∷ rest)) (ahead i j (front ++ i ∷ rest)) (ahead_cut i j front rest w)

before_ahead : (i j : ℕ) (q : List ℕ) → Before i j q → ahead i j q ≡ true
before_ahead i j q (front, rest, is, later) = ap (ahead i j) is ∙ ahead_cut i j front rest (is_in_lem j rest later)

ahead_before : (i j : ℕ) (q : List ℕ) → ahead i j q ≡ true → Before i j q
ahead_before i j [] a = absurd (both_ways false refl a)
ahead_before i j (x ∷ xs) a =
    elim (or_cases (eqb x i && is_in j xs) (ahead i j xs) a) [
      | inl here ↦ let parts = and_parts (eqb x i) (is_in j xs) here in ([], xs, ap (λ (y : ℕ). y ∷ xs) (eqb-true x i parts.0), in_is j xs parts.1)
      | inr there ↦ let found = ahead_before i j xs there in (x ∷ found.0, found.1, ap (λ (ys : List ℕ). x ∷ ys) found.2, found.3)
    ]

-- who is ahead of another is in the queue, and so is the other
ahead_in : (i j : ℕ) (q : List ℕ) → ahead i j q ≡ true → (is_in i q ≡ true) × (is_in j q ≡ true)
ahead_in i j [] a = absurd (both_ways false refl a)
ahead_in i j (x ∷ xs) a =
    elim (or_cases (eqb x i && is_in j xs) (ahead i j xs) a) [
      | inl here ↦ let parts = and_parts (eqb x i) (is_in j xs) here in (or_left (eqb x i) (is_in i xs) parts.0, or_right (eqb x j) (is_in j xs) parts.1)
      | inr there ↦ let both = ahead_in i j xs there in (or_right (eqb x i) (is_in i xs) both.0, or_right (eqb x j) (is_in j xs) both.1)
    ]

-- of two in a queue one is ahead
total : (i j : ℕ) (q : List ℕ) → (i ≡ j → ⊥) → is_in i q ≡ true → is_in j q ≡ true → (ahead i j q ≡ true) ⊎ (ahead j i q ≡ true)
total i j [] ne a b = absurd (both_ways false refl a)
total i j (x ∷ xs) ne a b =
    elim (or_cases (eqb x i) (is_in i xs) a) [
      | inl first ↦
          elim (or_cases (eqb x j) (is_in j xs) b) [
            | inl same ↦ absurd (ne (sym (eqb-true x i first) ∙ eqb-true x j same))
            | inr later ↦ inl (or_left (eqb x i && is_in j xs) (ahead i j xs) (and_from (eqb x i) (is_in j xs) first later))
          ]
      | inr later ↦
          elim (or_cases (eqb x j) (is_in j xs) b) [
            | inl first ↦ inr (or_left (eqb x j && is_in i xs) (ahead j i xs) (and_from (eqb x j) (is_in i xs) first later))
            | inr more ↦ elim (total i j xs ne later more) [ inl r ↦ inl (or_right (eqb x i && is_in j xs) (ahead i j xs) r) | inr r ↦ inr (or_right (eqb x j && is_in i xs) (ahead j i xs) r) ]
          ]
    ]

-- where nobody stands twice, not both are ahead
one_way : (i j : ℕ) (q : List ℕ) → once q ≡ true → ahead i j q ≡ true → ahead j i q ≡ true → ⊥
one_way i j [] o a b = both_ways false refl a
one_way i j (x ∷ xs) o a b =
    let parts = and_parts (not (is_in x xs)) (once xs) o in
    let absent : is_in x xs ≡ false = not-true (is_in x xs) parts.0 in
    elim (or_cases (eqb x i && is_in j xs) (ahead i j xs) a) [
      | inl here ↦
          let is : x ≡ i = eqb-true x i (and_parts (eqb x i) (is_in j xs) here).0 in
          let gone : is_in i xs ≡ false = subst (λ (y : ℕ). is_in y xs ≡ false) is absent in
          elim (or_cases (eqb x j && is_in i xs) (ahead j i xs) b) [
            | inl there ↦ both_ways (is_in i xs) gone (and_parts (eqb x j) (is_in i xs) there).1
            | inr later ↦ both_ways (is_in i xs) gone (ahead_in j i xs later).1
          ]
      | inr later ↦
          elim (or_cases (eqb x j && is_in i xs) (ahead j i xs) b) [
            | inl there ↦
                let is : x ≡ j = eqb-true x j (and_parts (eqb x j) (is_in i xs) there).0 in
                both_ways (is_in j xs) (subst (λ (y : ℕ). is_in y xs ≡ false) is absent) (ahead_in i j xs later).1
            | inr more ↦ one_way i j xs parts.1 later more
          ]
    ]

-- ONE CALL to the sections
do_sound : (a : Act) (t : Table) (e p : ℕ) → Sound t → Sound (do_by a t e p).0
do_sound act.Take t e p s = settled t p (take_outcome t e p) s (take_keeps t e p s)
do_sound act.Free t e p s = settled t p (free_outcome t e p) s (free_keeps t e p s)
do_sound act.GiveUp t e p s = settled t p (give_up_outcome t e p) s (give_up_keeps t e p s)

do_fair : (a : Act) (t : Table) (e p : ℕ) → InTurn t (do_by a t e p).0 × FirstServed t (do_by a t e p).0
do_fair act.Take t e p = (in_turn t p (take_outcome t e p) (take_fair t e p), first_served t p (take_outcome t e p) (take_fair t e p))
do_fair act.Free t e p = (in_turn t p (free_outcome t e p) (free_fair t e p), first_served t p (free_outcome t e p) (free_fair t e p))
do_fair act.GiveUp t e p = (in_turn t p (give_up_outcome t e p) (give_up_fair t e p), first_served t p (give_up_outcome t e p) (give_up_fair t e p))

-- a table as it was, or after one call
abbrev pub OneCall : Table → Table → Type 0
OneCall t u = (u ≡ t) ⊎ ((c : Call) × (u ≡ (ask_of t c).0))

pub call_sound : (t u : Table) → OneCall t u → Sound t → Sound u
call_sound t u (inl same) s = subst Sound (sym same) s
call_sound t u (inr (c, is)) s = subst Sound (sym is) (do_sound c.act t c.engine.0 c.section.place s)

call_fair : (t u : Table) → OneCall t u → InTurn t u × FirstServed t u
call_fair t u (inl same) =
    (λ place one other w a. ap (λ (v : Table). ahead one other (queue_at v place)) (sym same) ∙ a, λ place old new p q ne. absurd (ne (same_engine (holder_at t place) old new p (ap (λ (v : Table). holder_at v place) (sym same) ∙ q))))
call_fair t u (inr (c, is)) = subst (λ (v : Table). InTurn t v × FirstServed t v) (sym is) (do_fair c.act t c.engine.0 c.section.place)

-- who stood before another and still waits with it, stands before it
pub still_before : (t u : Table) (place : ℕ) → OneCall t u → Sound t → (i j : ℕ) → Before i j (queue_at t place) → OneOf i (queue_at u place) → OneOf j (queue_at u place) → Before i j (queue_at u place)
still_before t u place call s i j before here there =
    let a = before_ahead i j (queue_at t place) before in
    let twice : once (queue_at t place) ≡ true = (s.order place).twice in
    let apart : i ≡ j → ⊥ = λ same. one_way i j (queue_at t place) twice a (subst (λ (k : ℕ). ahead k i (queue_at t place) ≡ true) same (subst (λ (k : ℕ). ahead i k (queue_at t place) ≡ true) (sym same) a)) in
    elim (total i j (queue_at u place) apart (is_in_lem i (queue_at u place) here) (is_in_lem j (queue_at u place) there)) [
      | inl r ↦ ahead_before i j (queue_at u place) r
      | inr r ↦ absurd (one_way i j (queue_at t place) twice a ((call_fair t u call).0 place j i (ahead_in i j (queue_at t place) a).0 r))
    ]

pub next_was_first : (t u : Table) (place : ℕ) → OneCall t u → (i j : ℕ) → holder_at t place ≡ Some i → holder_at u place ≡ Some j → (i ≡ j → ⊥) → (rest : List ℕ) × (queue_at t place ≡ j ∷ rest)
next_was_first t u place call i j p q ne = (queue_at u place, (call_fair t u call).1 place i j p q ne)
