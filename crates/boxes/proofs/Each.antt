-- A step for each number below n: one number more is one step more.
use Rattle.std.proofs.Common.{◌≡◌, ℕ, ◌+◌, ◌<◌, length, List, [], ◌∷◌, ◌++◌, Option, Some, sym, refl, ap, ◌∙◌, add-one, map, arith}
use Rattle.std.specs.Fn.{Called}
use Rattle.std.specs.List.{range_with_len}
use Rattle.std.specs.Iterator.Adapters.{map_callee, map_source}
use Rattle.std.specs.declared.iter.Map.{Map}
use Rattle.std.specs.declared.ops.Range.{Range}
use Rattle.std.proofs.iter.Yields.{nat_range_steps}
use Rattle.std.specs.Iterator.{Yields}
use Rattle.std.proofs.lemmas.Iterator.{YieldsList, YieldsList-from_map, YieldsList-from_range, maps}
use Rattle.std.proofs.lemmas.Iterator.Consumers.{YieldsList-at, YieldsList-turn}
use Rattle.std.proofs.lemmas.List.{length_push}
use Rattle.std.proofs.lemmas.List.FromFn.{get_or-map-range_with_len, length-map-range_with_len}
use denote.Param.Members.{Mut}
use Rattle.boxes.specs.Log.{each}

pub each_more : {A : Type 0} (f : ℕ → A → A) (n : ℕ) (x : A) → each f (n + 1) x ≡ f n (each f n x)
unfolding each
each_more f n x = rw add-one refl

-- a turn of a loop: what the turn gave, from what the turns before gave
pub turn : {A : Type 0} (f : ℕ → A → A) (n : ℕ) (x before after : A) → before ≡ each f n x → after ≡ f n before → after ≡ each f (n + 1) x
turn f n x before after p q = q ∙ (ap (f n) p ∙ sym (each_more f n x))

-- the numbers below n, each made to what it numbers
pub numbered : {E F : Type 0} {g : Mut F (ℕ × Unit {0}) E} {f : F} (h : ℕ → E) (n : ℕ) (s t : Map (Range ℕ) F) → s ≡ t → map_source t ≡ record { start = 0; end = n } → map_callee t ≡ f →
    ((i : ℕ) (e : E) (q : F) → Called g f (i, tt) e q → (q ≡ f) × (e ≡ h i)) → YieldsList (maps nat_range_steps g) (λ e. e) s (map h (range_with_len 0 n))
numbered {g = g} h n s t same source callee made =
    YieldsList-at same (YieldsList-from_map g h (YieldsList-at source (YieldsList-from_range 0 n n refl (omega arith))) callee made)

-- a turn of a loop over them, which has come to e after the ones of es
pub turn_over : {A E S : Type 0} {steps : S → Option E → S → Type 0} {s : S} (h : ℕ → E) (f : E → A → A) (n : ℕ) → YieldsList steps (λ e. e) s (map h (range_with_len 0 n)) →
    (es : List E) (t : S) → Yields steps s es t → (r : Option E) (u : S) (e : E) → r ≡ Some e → steps t r u →
    (x before after : A) → before ≡ each (λ i. f (h i)) (length es) x → after ≡ f e before → after ≡ each (λ i. f (h i)) (length (es ++ e ∷ [])) x
turn_over h f n road es t y r u e is step x before after p q =
    let at = YieldsList-turn road es t y r u e is step in
    let below : length es < n = omega (arith, at.0, length-map-range_with_len h 0 n) in
    let here : e ≡ h (length es) = at.1 ∙ get_or-map-range_with_len h 0 n (length es) (length es) e below (omega arith) in
    rw (length_push es e) (turn (λ i. f (h i)) (length es) x before after p (q ∙ ap (λ z. f z before) here))
