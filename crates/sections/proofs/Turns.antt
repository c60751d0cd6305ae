-- Nobody overtakes, and the first is served: shown of one section for each call, and carried to the table.
use Rattle.std.proofs.Common.{◌≡◌, ℕ, true, false, ◌&&◌, ◌||◌, eqb, List, [], ◌∷◌, ◌++◌, Some, None, Ok, Err, sym, refl, ap, ◌∙◌, inl, inr, arith}
use Rattle.std.proofs.lemmas.Bool.Decides.{nat_tests}
use Rattle.std.proofs.lemmas.Bool.{both_ways, cond_both, ne_eqb, or_right}
use Rattle.sections.specs.Table.{Holder, Outcome, Section, Table, changeable, first_of, free_by, free_outcome, free_section, give_up_outcome, is_in, known, put, queue_at, rest_of, place_at, settle, take_by, take_outcome, take_section, waits, without}
use Rattle.sections.specs.Promise.{FirstServed, InTurn, ahead}
use Rattle.sections.proofs.Lists.{is_in_push, is_in_without}
use Rattle.sections.proofs.Sound.{not_both, not-true, same_engine}
use Rattle.sections.proofs.Tables.{put_read, unless_either, waits_nowhere}

-- one section before and after
pub record Fair (s s' : Section) : Type 0 where
  pub turn : (one other : ℕ) → is_in other s.queue ≡ true → ahead one other s'.queue ≡ true → ahead one other s.queue ≡ true
  pub first : (old new : ℕ) → s.has ≡ Some old → s'.has ≡ Some new → (old ≡ new → ⊥) → s.queue ≡ new ∷ s'.queue

abbrev pub FairOutcome : Section → Outcome → Type 0
FairOutcome s (Ok (s', done)) = Fair s s'
FairOutcome s (Err refusal) = Unit {0}

same_holder : (h : Holder) (old new : ℕ) → h ≡ Some old → h ≡ Some new → (old ≡ new → ⊥) → (A : Type 0) → A
same_holder h old new p q n A = absurd (n (same_engine h old new p q))

-- whoever joins stands behind all
ahead_last : (one other e : ℕ) (q : List ℕ) → ahead one other (q ++ e ∷ []) ≡ (ahead one other q || (is_in one q && eqb e other))
ahead_last one other e [] = grind (arith, nat_tests)
ahead_last one other e (x ∷ xs) = let p = is_in_push other e xs in let h = ahead_last one other e xs in grind (arith, nat_tests)

ahead_push : (one other e : ℕ) (q : List ℕ) → is_in other q ≡ true → is_in e q ≡ false → ahead one other (q ++ e ∷ []) ≡ true → ahead one other q ≡ true
ahead_push one other e q w n a =
    let apart : eqb e other ≡ false = ne_eqb e other (λ h. both_ways (is_in other q) (rw h at n) w) in
    let h = ahead_last one other e q in
    grind (arith, nat_tests)

ahead_without : (one other e : ℕ) (q : List ℕ) → ahead one other (without e q) ≡ true → ahead one other q ≡ true
ahead_without one other e [] a = a
ahead_without one other e (x ∷ xs) a = let p = is_in_without other e xs in let h = ahead_without one other e xs in grind (arith, nat_tests)

ahead_rest : (one other : ℕ) (q : List ℕ) → ahead one other (rest_of q) ≡ true → ahead one other q ≡ true
ahead_rest one other [] a = a
ahead_rest one other (x ∷ xs) a = or_right (eqb x one && is_in other xs) (ahead one other xs) a

first_rest : (q : List ℕ) (new : ℕ) → first_of q ≡ Some new → q ≡ new ∷ rest_of q
first_rest [] new h = absurd (not_both None new h refl)
first_rest (x ∷ xs) new h = ap (λ y. y ∷ xs) (same_engine (Some x) x new refl h)

pub take_fair : (t : Table) (e p : ℕ) → FairOutcome (place_at t p) (take_outcome t e p)
take_fair t e p = unless_either t e p (take_section (place_at t p) e) (FairOutcome (place_at t p)) (λ _. tt) (λ h. by h.2 (place_at t p).has refl)
  where
    by : waits e t ≡ false → (h : Holder) → (place_at t p).has ≡ h → FairOutcome (place_at t p) (take_by h (place_at t p) e)
    by n None h = cond_both (changeable (place_at t p)) _ _ (FairOutcome (place_at t p)) (λ _. record { turn = λ one other w a. a; first = λ old new o _ _. absurd (not_both (place_at t p).has old o h) }) (λ _. tt)
    by n (Some f) h =
        cond_both (eqb f e) _ _ (FairOutcome (place_at t p)) (λ _. tt)
        (λ _. record {
          turn = λ one other w. ahead_push one other e (queue_at t p) w (not-true (is_in e (queue_at t p)) (waits_nowhere e t n p));
          first = λ old new o q n. same_holder (place_at t p).has old new o q n _;
        })

pub free_fair : (t : Table) (e p : ℕ) → FairOutcome (place_at t p) (free_outcome t e p)
free_fair t e p = unless_either t e p (free_section (place_at t p) e) (FairOutcome (place_at t p)) (λ _. tt) (λ _. by (place_at t p).has)
  where
    by : (h : Holder) → FairOutcome (place_at t p) (free_by h (place_at t p) e)
    by None = tt
    by (Some f) =
        cond_both (eqb f e) _ _ (FairOutcome (place_at t p))
        (λ _. cond_both (changeable (place_at t p)) _ _ (FairOutcome (place_at t p)) (λ _. record { turn = λ one other w. ahead_rest one other (queue_at t p); first = λ old new o q n. first_rest (queue_at t p) new q }) (λ _. tt))
        (λ _. tt)

pub give_up_fair : (t : Table) (e p : ℕ) → FairOutcome (place_at t p) (give_up_outcome t e p)
give_up_fair t e p =
    cond_both (known e p) _ _ (FairOutcome (place_at t p))
    (λ _. cond_both (is_in e (queue_at t p)) _ _ (FairOutcome (place_at t p)) (λ _. record { turn = λ one other w. ahead_without one other e (queue_at t p); first = λ old new o q n. same_holder (place_at t p).has old new o q n _ }) (λ _. tt))
    (λ _. tt)

-- a section that stays as it was
fair_same : (s s' : Section) → s' ≡ s → Fair s s'
fair_same s s' h =
    record {
      turn = λ one other w a. ap (λ x. ahead one other x.queue) (sym h) ∙ a;
      first = λ old new o q n. same_holder s.has old new o (ap (λ x. x.has) (sym h) ∙ q) n _;
    }

fair_everywhere : (t : Table) (p : ℕ) (o : Outcome) → FairOutcome (place_at t p) o → (q : ℕ) → Fair (place_at t q) (place_at (settle t p o).0 q)
fair_everywhere t p (Err refusal) f q = fair_same (place_at t q) (place_at t q) refl
fair_everywhere t p (Ok (s, done)) f q = elim (put_read t p s q) [ inl h ↦ rw (h.1, h.0) f | inr h ↦ fair_same (place_at t q) (place_at (put t p s) q) h ]

pub in_turn : (t : Table) (p : ℕ) (o : Outcome) → FairOutcome (place_at t p) o → InTurn t (settle t p o).0
in_turn t p o f place = (fair_everywhere t p o f place).turn

pub first_served : (t : Table) (p : ℕ) (o : Outcome) → FairOutcome (place_at t p) o → FirstServed t (settle t p o).0
first_served t p o f place = (fair_everywhere t p o f place).first
