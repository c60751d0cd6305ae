-- One engine further along the chase.
-- Assumes nothing.
use Rattle.std.proofs.Common.{map, append-nil, ◌≡◌, ℕ, zero, suc, ◌+◌, ◌-◌, ◌<◌, Bool, true, false, List, [], ◌∷◌, ◌++◌, Some, None, Option, sym, refl, ap, ◌∙◌, add-one, arith}
use Rattle.std.proofs.lemmas.List.{map-append, map-id}
use Rattle.std.specs.Option.{option_map, option_to_list}
use Rattle.std.proofs.lemmas.Bool.{cond-true, cond-false}
use Rattle.signs.specs.Signs.{Wait}
use Rattle.ring_search.specs.Chase.{follow, chase}
use Rattle.ring_search.specs.declared.Ring.{Ring}
use Rattle.ring_search.specs.Search.{Judged, model, more, ring_at, rings_below}

module _ {E : Type 0} (same : E → E → Bool) (whom : E → Option E) (first : E) where
  pub chase_on : (left : ℕ) (at : E) (done : List E) → 0 < left →
      chase same whom first left at done ≡ follow same first (done ++ at ∷ []) (λ next. chase same whom first (left - 1) next (done ++ at ∷ [])) (whom at)
  unfolding chase
  chase_on zero at done h = absurd (omega arith)
  chase_on (suc left) at done h = let q : suc left - 1 ≡ left = omega arith in rw q refl

  pub chase_start : (left : ℕ) (at : E) (done : List E) → done ≡ [] → chase same whom first left at done ≡ chase same whom first left at []
  chase_start left at done q = ap (chase same whom first left at) q

  pub chase_out : (left : ℕ) (at : E) (done : List E) → 0 < left → whom at ≡ None → chase same whom first left at done ≡ None
  chase_out left at done h q =
      chase_on left at done h ∙ ap (follow same first (done ++ at ∷ []) (λ next. chase same whom first (left - 1) next (done ++ at ∷ []))) q

  pub chase_back : (left : ℕ) (at next : E) (done : List E) → 0 < left → whom at ≡ Some next → same next first ≡ true →
      chase same whom first left at done ≡ Some (done ++ at ∷ [])
  chase_back left at next done h q back =
      chase_on left at done h ∙ ap (follow same first (done ++ at ∷ []) (λ z. chase same whom first (left - 1) z (done ++ at ∷ []))) q
      ∙ cond-true (same next first) (Some (done ++ at ∷ [])) (chase same whom first (left - 1) next (done ++ at ∷ [])) back

  pub chase_next : (left : ℕ) (at next : E) (done : List E) → 0 < left → whom at ≡ Some next → same next first ≡ false →
      chase same whom first left at done ≡ chase same whom first (left - 1) next (done ++ at ∷ [])
  chase_next left at next done h q other =
      chase_on left at done h ∙ ap (follow same first (done ++ at ∷ []) (λ z. chase same whom first (left - 1) z (done ++ at ∷ []))) q
      ∙ cond-false (same next first) (Some (done ++ at ∷ [])) (chase same whom first (left - 1) next (done ++ at ∷ [])) other

  pub chase_end : (left : ℕ) (at : E) (done : List E) → left ≡ 0 → chase same whom first left at done ≡ None
  unfolding chase
  chase_end left at done q = rw q refl

pub rings_more : (w : ℕ → Wait) (own : ℕ → ℕ) (e : ℕ) → rings_below w own (e + 1) ≡ more (rings_below w own e) (ring_at w own e)
unfolding rings_below
rings_more w own e = rw add-one refl

pub rings_none : (w : ℕ → Wait) (own : ℕ → ℕ) → rings_below w own 0 ≡ []
unfolding rings_below
rings_none w own = refl

-- with one engine's ring more, where there is one, it is the rings below the next engine
pub rings_step : (w : ℕ → Wait) (own : ℕ → ℕ) (e : ℕ) {a b : List Judged} {o : Option Judged} →
    a ≡ more b o → b ≡ rings_below w own e → o ≡ ring_at w own e → a ≡ rings_below w own (e + 1)
rings_step w own e {a} {b} {o} added before ring =
    added ∙ ap (λ (z : List Judged). more z o) before ∙ ap (more (rings_below w own e)) ring ∙ sym (rings_more w own e)

-- one engine's ring put behind the rings found so far, where there is one
pub added : (found xs : List Ring) (o : Option Ring) → map (λ x. x) xs ≡ option_to_list o → map model (found ++ xs) ≡ more (map model found) (option_map model o)
added found xs o q = map-append model found xs ∙ ap (λ z. map model found ++ map model z) (sym (map-id xs) ∙ q) ∙ behind o
  where
    behind : (o : Option Ring) → map model found ++ map model (option_to_list o) ≡ more (map model found) (option_map model o)
    behind None = append-nil (map model found)
    behind (Some r) = refl
