-- The promises about sections and signs, read off the invariants.
-- Assumes nothing.
use Rattle.std.proofs.Common.{◌≡◌, ℕ, ◌<◌, ◌≤◌, ◌⊎◌, List, [], ◌∷◌, sym, refl, ◌∙◌, inl, inr, arith}
use mathlib.Core.List.{Memᴰ}
use Rattle.std.proofs.lemmas.Bool.{cases_eq}
use Rattle.yard.specs.Yard.{Holder, free, by, Section, asking, Engine, Yard, holder, mode, shown, Told, first, rest, Act, May, after, Run, still, then}
use Rattle.yard.specs.Order.{OneAtATime, OnePlace, SomebodyHas, FirstGets, Upto, from, past, NoOvertaking, Behind, TurnHasCome, OwnDiffer, ShownRises, Taken, OnlyTaken}
use Rattle.yard.proofs.Queues.{upto_end, upto_without}
use Rattle.yard.proofs.InTurn.{by≢free, upto_rest}
use Rattle.yard.proofs.Views.{Moved, unmoved, was_taken, was_joined, was_passed, was_left, moved, Did, nothing, asked, freed, began, heard, found, did, told_was}
use Rattle.yard.proofs.Places.{Placed, same_holder, holder_after, one_place}
use Rattle.yard.proofs.Signs.{shown_rises}
use Rattle.yard.proofs.Sound.{sound, sound_run}

pub one_at_a_time : OneAtATime
one_at_a_time engines y r a g i s h = holder_after (moved engines y a g s) h

pub in_one_place : OnePlace
in_one_place engines y r = ((λ i s t m n. one_place (sound r).places m n), λ s. ((sound r).places.kept s).once)

pub somebody_has : SomebodyHas
somebody_has engines y r i s m = go (holder y s) refl
  where
    k : Placed engines y
    k = (sound r).places

    empty : (q : List ℕ) → q ≡ [] → Memᴰ i q → ⊥
    empty q e n = elim (rw e at n) [ ]

    go : (h : Holder) → holder y s ≡ h → (j : ℕ) × (holder y s ≡ by j) × (i ≡ j → ⊥)
    go free e = absurd (empty _ ((k.kept s).had e) m)
    go (by j) e = (j, e, λ p. (k.kept s).apart j e (rw (← p) m))

pub first_gets : FirstGets
first_gets engines y r a g i s un now = go (moved engines y a g s) now
  where
    front : (q : List ℕ) → first q ≡ by i → q ≡ i ∷ rest q
    front [] e = absurd (by≢free free i e refl)
    front (x ∷ q) e = rw (same_holder refl e)

    go : {x : Section} → Moved engines y s x → x.holder ≡ by i → ((y.section s).queue ≡ i ∷ x.queue) ⊎ ((holder y s ≡ free) × ((y.section s).queue ≡ []) × (mode y i ≡ asking s))
    go unmoved h = absurd (un h)
    go (was_taken k f) h = inr (f.1, ((sound r).places.kept s).had f.1, rw (same_holder h refl) f.0)
    go (was_joined k f) h = absurd (un h)
    go (was_passed k f) h = inl (front (y.section s).queue h)
    go (was_left k f) h = absurd (un h)

pub no_overtaking : NoOvertaking
no_overtaking engines y r a g i k s m u = go (moved engines y a g s) u
  where
    go : {x : Section} → Moved engines y s x → Upto k i x.queue → Upto k i (y.section s).queue
    go unmoved v = v
    go (was_taken j f) v = v
    go (was_joined j f) v = elim (upto_end (y.section s).queue v) [ inl o ↦ o | inr e ↦ absurd (f.2 (rw (← e) m)) ]
    go (was_passed j f) v = upto_rest (y.section s).queue v
    go (was_left j f) v = upto_without j (y.section s).queue v

pub behind : Behind
behind engines y r i s n h = ((sound r).places.kept s).turn i n h

upto_self : {i : ℕ} {q : List ℕ} → Memᴰ i q → Upto i i q
upto_self (Memᴰ.head e) = from e (Memᴰ.head e)
upto_self (Memᴰ.tail m) = past (upto_self m)

pub turn_has_come : TurnHasCome
turn_has_come engines y r i j s m n e lo hi h =
    elim (p.stands i j s m e) [
      | inr o ↦ o
      | inl q ↦ elim (cases_eq n (y.section s).change) [
        | inl d ↦ sym (p.kept s).now ∙ (rw d at h)
        | inr d ↦ absurd (let c = (p.view i j s m e).3 q in ((p.kept s).turn i n i q (omega arith) (omega arith) h).1 (upto_self q))
      ]
    ]
  where
    p : Placed engines y
    p = (sound r).places

pub own_differ : OwnDiffer
own_differ engines y r =
    ((sound r).signs.mine, λ i k b c e. sym ((sound r).signs.mine i b) ∙ rw e ((sound r).signs.mine k c))

rises_run : {engines : ℕ} {y z : Yard} {acts : List Act} → Run engines y acts z → (i : ℕ) → shown y i ≤ shown z i
rises_run still i = omega arith
rises_run {engines} (then {z = z} r a g) i = let l = rises_run r i in let k = shown_rises (did engines z a g i) in omega arith

pub only_rises : ShownRises
only_rises engines y z acts r t i = (rises_run t i, (sound_run (sound r) t).signs.under i)

taken_more : {engines v : ℕ} {acts : List Act} (a : Act) → Taken engines acts v → Taken engines (a ∷ acts) v
taken_more a (inl l) = inl l
taken_more a (inr t) = inr (t.0, t.1, t.2, t.3, Memᴰ.tail t.4, t.5)

abbrev AllTaken : ℕ → Yard → List Act → Type 0
AllTaken engines y acts = ((i : ℕ) → i < engines → Taken engines acts (shown y i)) × ((x c j v : ℕ) → Told y x c j v → Taken engines acts v)

taken_after : {engines : ℕ} {y : Yard} {acts : List Act} → Placed engines y → AllTaken engines y acts → (a : Act) → May engines y a → AllTaken engines (after y a) (a ∷ acts)
taken_after {engines} {y} {acts} p old a g = (λ i l. shows i l (did engines y a g i), told)
  where
    shows : (i : ℕ) {e : Engine} → i < engines → Did engines y a i e → Taken engines (a ∷ acts) e.shown
    shows i l nothing = taken_more a (old.0 i l)
    shows i l (asked s f) = taken_more a (old.0 i l)
    shows i l (freed s f) = taken_more a (old.0 i l)
    shows i l (began s j m u f b) = inr (i, s, j, m, Memᴰ.head (sym b), f.3.1)
    shows i l (heard j v f) = taken_more a (old.1 i _ j v f.0)
    shows i l (found j s f z) = taken_more a (old.0 i l)

    told : (x c j v : ℕ) → Told (after y a) x c j v → Taken engines (a ∷ acts) v
    told x c j v t =
        elim (told_was engines y a g x c j v t)
        [ inl o ↦ taken_more a (old.1 x c j v o) | inr n ↦ rw n.0 (taken_more a (old.0 j (p.holders j n.1.0 n.1.1.1))) ]

pub only_taken : OnlyTaken
only_taken engines y acts still = ((λ i l. inl l), λ x c j v m. elim m [ ])
only_taken engines y acts (then {acts = before} {z = z} r a g) = taken_after (sound (before, r)).places (only_taken engines z before r) a g
