-- Over every list of calls: the table stays sound, and each promise is a part of that, or of one call's fairness.
use Rattle.std.proofs.Common.{◌≡◌, ℕ, List, [], ◌∷◌, Some, None, refl, inl, inr}
use Rattle.std.proofs.lemmas.Bool.{cases_eq}
use Rattle.sections.specs.Table.{Holder, Table, free_outcome, give_up_outcome, holder_at, take_outcome}
use Rattle.sections.specs.Promise.{Call, AlwaysFirstServed, FirstServed, InTurn, AlwaysNobodyItsOwn, NobodyOvertakes, AlwaysNobodyTwice, OneHolder, AlwaysOneQueue, AlwaysSomebodyHas, after, frees, gives_up, next, takes}
use Rattle.sections.proofs.Sound.{Sound, empty_sound, free_keeps, give_up_keeps, same_engine, settled, take_keeps}
use Rattle.sections.proofs.Turns.{first_served, free_fair, give_up_fair, in_turn, take_fair}

pub next_sound : (t : Table) (call : Call) → Sound t → Sound (next t call)
next_sound t (takes e p) s = settled t p (take_outcome t e p) s (take_keeps t e p s)
next_sound t (frees e p) s = settled t p (free_outcome t e p) s (free_keeps t e p s)
next_sound t (gives_up e p) s = settled t p (give_up_outcome t e p) s (give_up_keeps t e p s)

pub reached_sound : (calls : List Call) → Sound (after calls)
reached_sound [] = empty_sound
reached_sound (call ∷ calls) = next_sound (after calls) call (reached_sound calls)

pub one_holder : OneHolder
one_holder calls place one other p q = same_engine (holder_at (after calls) place) one other p q

pub nobody_twice : AlwaysNobodyTwice
nobody_twice calls place = ((reached_sound calls).order place).twice

pub nobody_its_own : AlwaysNobodyItsOwn
nobody_its_own calls engine place = ((reached_sound calls).order place).others engine

pub one_queue : AlwaysOneQueue
one_queue calls engine p q w v = elim (cases_eq p q) [ inl h ↦ h | inr n ↦ absurd ((reached_sound calls).apart engine p q (w, v, n)) ]

pub somebody_has : AlwaysSomebodyHas
somebody_has calls engine place w = by (holder_at (after calls) place) refl
  where
    by : (h : Holder) → holder_at (after calls) place ≡ h → (holder : ℕ) × (holder_at (after calls) place ≡ Some holder)
    by None h = absurd (((reached_sound calls).order place).had engine w h)
    by (Some holder) h = (holder, h)

call_in_turn : (t : Table) (call : Call) → InTurn t (next t call)
call_in_turn t (takes e p) = in_turn t p (take_outcome t e p) (take_fair t e p)
call_in_turn t (frees e p) = in_turn t p (free_outcome t e p) (free_fair t e p)
call_in_turn t (gives_up e p) = in_turn t p (give_up_outcome t e p) (give_up_fair t e p)

call_first_served : (t : Table) (call : Call) → FirstServed t (next t call)
call_first_served t (takes e p) = first_served t p (take_outcome t e p) (take_fair t e p)
call_first_served t (frees e p) = first_served t p (free_outcome t e p) (free_fair t e p)
call_first_served t (gives_up e p) = first_served t p (give_up_outcome t e p) (give_up_fair t e p)

pub nobody_overtakes : NobodyOvertakes
nobody_overtakes calls call = call_in_turn (after calls) call

pub first_is_served : AlwaysFirstServed
first_is_served calls call = call_first_served (after calls) call
