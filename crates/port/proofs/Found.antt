-- In a world that steps lead to, the walk from an engine of a ring finds that ring: whoever stands in a queue waits for one only, and a ring has at most 64.
use Rattle.std.specs.Prelude.{None, Some}
use Rattle.std.proofs.Common.{◌≡◌, ℕ, zero, suc, ◌+◌, ◌-◌, ◌<◌, ◌≤◌, Bool, true, ◌||◌, eqb, ◌⊎◌, List, [], ◌∷◌, ◌++◌, map, length, Some, None, Option, sym, refl, ap, ◌∙◌, inl, inr, append_assoc, arith}
use mathlib.Core.List.{Memᴰ}
use Rattle.std.proofs.lemmas.Bool.{cases_Bool, cases_eq, cond-false, cond-true, eq-eqb, eqb-true, lt-ltb, ne_eqb}
use Rattle.std.proofs.lemmas.Bool.Decides.{nat_tests}
use Rattle.messages.specs.declared.yard.Engine.{Engine}
use Rattle.messages.specs.declared.yard.Section.{Section}
use Rattle.keeper.specs.Words.{holder_of}
use Rattle.sections.specs.Table.{Holder as SectionHolder}
use Rattle.sections.specs.Sound.{once}
use Rattle.sections.specs.Table.{is_in}
use Rattle.sections.proofs.Lists.{at_most}
use Rattle.home.specs.Queries.{engine}
use Rattle.world.specs.World.{World, box_at, is_box, state_at, station_at}
use Rattle.world.specs.Runs.{Apart, Chain, OneOf, Reached, Ring, WaitsFor, holder_in, queue_in, table_in}
use Rattle.yard.specs.Yard as model
use Rattle.yard.proofs.Promised.{somebody_has}
use Rattle.yard.proofs.Rounds.{waits_one}
use Rattle.refinement.specs.Placed.{number_of}
use Rattle.promises.proofs.Dictionary.{from_mem, holder_of_model, queue_in_yard, queued_of, ring_numbered, sound_in, to_mem, waits_of_world}
use Rattle.promises.proofs.Shapes.{WorldIn, reached_in}
use Rattle.promises.proofs.Whole.{Modelled, reached_modelled}
use Rattle.ring_search.proofs.Chase.{chase_back, chase_next}
use Rattle.port.specs.Walk.{after_of, first_from, or_else, ring_from, same, walk, whom_at, whom_by, whom_in, whom_of}
use Rattle.port.proofs.Looking.{first_end, first_on}

-- THE FIRST OF MANY THAT ARE ALL THE SAME
module _ {A : Type 0} (f : ℕ → Option A) (x : A) (all : (n : ℕ) → (f n ≡ None) ⊎ (f n ≡ Some x)) where
  one_more : (left n : ℕ) (o : Option A) → f n ≡ o → first_from f (suc left) n ≡ or_else o (first_from f left (n + 1))
  one_more left n o q =
      first_on f (suc left) n (omega arith) ∙ ap (λ (k : ℕ). or_else (f n) (first_from f k (n + 1))) (let e : suc left - 1 ≡ left = omega arith in e) ∙
      ap (λ (p : Option A). or_else p (first_from f left (n + 1))) q

  pub first_either : (left n : ℕ) → (first_from f left n ≡ None) ⊎ (first_from f left n ≡ Some x)
  first_either zero n = inl (first_end f 0 n refl)
  first_either (suc left) n =
      elim (all n) [
        | inr q ↦ inr (one_more left n (Some x) q)
        | inl q ↦ elim (first_either left (n + 1)) [ inl r ↦ inl (one_more left n None q ∙ r) | inr r ↦ inr (one_more left n None q ∙ r) ]
      ]

  pub first_found : (left n s : ℕ) → n ≤ s → s < n + left → f s ≡ Some x → first_from f left n ≡ Some x
  first_found zero n s ge lt q = absurd (omega arith)
  first_found (suc left) n s ge lt q =
      elim (all n) [
        | inr r ↦ one_more left n (Some x) r
        | inl r ↦ elim (cases_eq n s) [
          | inl e ↦ one_more left n (Some x) (ap f e ∙ q)
          | inr e ↦ one_more left n None r ∙ first_found left (n + 1) s (let d = e in later n s ge e) (omega arith) q
        ]
      ]
    where
      later : (a b : ℕ) → a ≤ b → (a ≡ b → ⊥) → a + 1 ≤ b
      later a b h ne = grind (arith, nat_tests)

-- QUEUES
is_in_lem : {e : ℕ} (q : List ℕ) → is_in e q ≡ true → Memᴰ e q
is_in_lem [] h = absurd (grind (arith, nat_tests))
is_in_lem {e} (x ∷ q) h =
    elim (cases_Bool (eqb x e)) [
      | inl p ↦ Memᴰ.head (sym (eqb-true x e p))
      | inr p ↦ Memᴰ.tail (is_in_lem q (sym (ap (λ (t : Bool). t || is_in e q) p) ∙ h))
    ]

in_is : {e : ℕ} (q : List ℕ) → Memᴰ e q → is_in e q ≡ true
in_is [] m = elim m [ ]
in_is {e} (x ∷ q) (Memᴰ.head p) = ap (λ (t : Bool). t || is_in e q) (eq-eqb x e (sym p))
in_is {e} (x ∷ q) (Memᴰ.tail m) = let h = in_is q m in grind (arith, nat_tests)

once_apart : (is : List ℕ) → Apart is → once is ≡ true
once_apart [] a = refl
once_apart (x ∷ xs) a =
    elim (cases_Bool (is_in x xs)) [
      | inl p ↦ absurd (a.0 (from_mem xs (is_in_lem xs p)))
      | inr p ↦ let h = once_apart xs a.1 in grind (arith, nat_tests)
    ]

module _ (w : World) (z : model.Yard) (i : WorldIn w) (m : Modelled w z) where
  -- wherever one that waits stands in a queue, the same one has the section
  one_only : (e j : ℕ) → WaitsFor w e j → (s : Section) → is_in e (queue_in w s) ≡ true → holder_in w s ≡ Some j
  one_only e j waits s there =
      let o = from_mem (queue_in w s) (is_in_lem (queue_in w s) there) in
      let q = queued_of w z i m s o in
      let h = somebody_has w.yard.engines z m.reach e (number_of s) q in
      holder_of_model w z i m s (queue_in_yard w z i m s o) h.1 ∙
      ap Some (waits_one (sound_in w z i m).places {x = e} {j = h.0} {k = j} (number_of s, q, h.1) (waits_of_world w z i m waits))

  -- at one place
  at_place : (e j : ℕ) → WaitsFor w e j → (s : Section) →
      (whom_at (table_in w s.keeper) e s.place ≡ None) ⊎ (whom_at (table_in w s.keeper) e s.place ≡ Some (Some (engine j)))
  at_place e j waits s =
      elim (cases_Bool (is_in e (queue_in w s))) [
        | inl p ↦ inr (cond-true (is_in e (queue_in w s)) _ _ p ∙ ap (λ (h : SectionHolder). Some (holder_of h)) (one_only e j waits s p))
        | inr p ↦ inl (cond-false (is_in e (queue_in w s)) _ _ p)
      ]

  -- at one box
  in_box : (e j : ℕ) → WaitsFor w e j → (b : ℕ) → (whom_in (table_in w (box_at b)) e ≡ None) ⊎ (whom_in (table_in w (box_at b)) e ≡ Some (Some (engine j)))
  in_box e j waits b =
      first_either (whom_at (table_in w (box_at b)) e) (Some (engine j)) (λ p. at_place e j waits (record { keeper = box_at b; place = p })) 64 0

  by_box : (e j : ℕ) → WaitsFor w e j → (b : ℕ) →
      (whom_by e (state_at w (box_at b)) ≡ None) ⊎ (whom_by e (state_at w (box_at b)) ≡ Some (Some (engine j)))
  by_box e j waits b =
      elim (cases_Bool (is_box w (box_at b))) [
        | inl is ↦
            let q = ap (whom_by e) (cond-true (is_box w (box_at b)) (Some (station_at w (box_at b)).state) None is) in
            elim (in_box e j waits b) [ inl r ↦ inl (q ∙ r) | inr r ↦ inr (q ∙ r) ]
        | inr is ↦ inl (ap (whom_by e) (cond-false (is_box w (box_at b)) (Some (station_at w (box_at b)).state) None is))
      ]

  -- WHOM AN ENGINE WAITS FOR IS FOUND
  pub whom_found : (e j : ℕ) → WaitsFor w e j → whom_of w (engine e) ≡ Some (Some (engine j))
  whom_found e j (s, o, h) =
      let waits : WaitsFor w e j = (s, o, h) in
      let k = queue_in_yard w z i m s o in
      let there = in_is (queue_in w s) (to_mem (queue_in w s) o) in
      let here = cond-true (is_in e (queue_in w s)) (Some (holder_of (holder_in w s))) None there ∙ ap (λ (x : SectionHolder). Some (holder_of x)) h in
      let mine = first_found (whom_at (table_in w s.keeper) e) (Some (engine j)) (λ p. at_place e j waits (record { keeper = s.keeper; place = p })) 64 0 s.place (omega arith) k.1 here in
      let is = lt-ltb s.keeper.0 (length w.stations) (let c = i.count in let l = k.0 in omega arith) in
      first_found (λ b. whom_by e (state_at w (box_at b))) (Some (engine j)) (by_box e j waits) w.yard.boxes 0 s.keeper.0 (omega arith) (omega (arith, k.0))
      (ap (whom_by e) (cond-true (is_box w s.keeper) (Some (station_at w s.keeper).state) None is) ∙ mine)

  -- where one goes on to
  goes_on : (e j : ℕ) → WaitsFor w e j → after_of (whom_of w (engine e)) ≡ Some (engine j)
  goes_on e j waits = ap after_of (whom_found e j waits)

  -- along the waits of a chain the walk passes its engines
  pub chain_walked : (first : Engine) (left x : ℕ) (xs : List ℕ) (done : List Engine) → Chain w x xs first.0 → (OneOf first.0 xs → ⊥) → length xs < left →
      walk (whom_of w) first left (engine x) done ≡ Some (done ++ map engine (x ∷ xs))
  chain_walked first left x [] done c never lt =
      chase_back same (λ e. after_of (whom_of w e)) first left (engine x) first done (omega arith) (goes_on x first.0 c) (eq-eqb first.0 first.0 refl)
  chain_walked first left x (y ∷ ys) done c never lt =
      chase_next same (λ e. after_of (whom_of w e)) first left (engine x) (engine y) done (omega arith) (goes_on x y c.0)
      (ne_eqb y first.0 (λ e. never (from_mem (y ∷ ys) (Memᴰ.head (sym e))))) ∙
      chain_walked first (left - 1) y ys (done ++ engine x ∷ []) c.1 (λ o. never (from_mem (y ∷ ys) (Memᴰ.tail (to_mem ys o)))) (omega arith) ∙
      ap Some (append_assoc done (engine x ∷ []) (map engine (y ∷ ys)))

  -- A RING IS FOUND FROM EACH OF ITS ENGINES
  pub ring_walked : (first : Engine) (others : List ℕ) → Ring w (first.0 ∷ others) → ring_from w first ≡ Some (first ∷ map engine others)
  ring_walked first others r =
      let few = at_most 64 (first.0 ∷ others) (once_apart (first.0 ∷ others) r.0)
      (λ y p. let l = ring_numbered w z i m first.0 others r y (from_mem (first.0 ∷ others) (is_in_lem (first.0 ∷ others) p)) in let b = w.yard.sizes.3 in omega arith) in
      chain_walked first 64 first.0 others [] r.1 r.0.0 (omega arith)

pub ring_found : (w : World) → Reached w → (first : Engine) (others : List ℕ) → Ring w (first.0 ∷ others) → ring_from w first ≡ Some (first ∷ map engine others)
ring_found w reached first others r = let p = reached_modelled w reached in ring_walked w p.0 (reached_in w reached) p.1 first others r
