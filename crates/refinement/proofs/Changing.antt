-- A change heard engine by engine is a run of the model, and tells nobody to give back.
use Rattle.std.specs.Prelude.{None, Some}
use Rattle.std.proofs.Common.{◌≡◌, ℕ, zero, suc, ◌<◌, ◌≤◌, Bool, true, false, cond, eqb, Ok, Err, Result}
use Rattle.messages.specs.declared.yard.BoxNumber.{BoxNumber}
use Rattle.messages.specs.declared.yard.Engine.{Engine}
use Rattle.messages.specs.declared.yard.Section.{Section}
use Rattle.messages.specs.declared.yard.Yard as sizes
use Rattle.messages.specs.Holder.{Holder}
use Rattle.messages.specs.declared.message.Refusal.TheVariants as refusal
use Rattle.messages.specs.Range.{HolderIn}
use Rattle.signs.specs.declared.Engine as signs
use Rattle.signs.specs.declared.Refusal.{Refusal as SignRefusal}
use Rattle.signs.specs.Signs.{begin_of}
use Rattle.engine_state.specs.declared.state.Event.{Event}
use Rattle.engine_state.specs.declared.state.Event.TheVariants as event
use Rattle.engine_state.specs.declared.state.State.{State}
use Rattle.engine_state.specs.declared.state.Known.TheVariants as known
use Rattle.engine_state.specs.State.{knowing}
use Rattle.engine_state.specs.Calls.{wait_of}
use Rattle.engine_state.specs.Inputs.{change_at, passed_to, is_later, begin_at, begun_with}
use Rattle.journal.specs.declared.output.Output.TheVariants as output
use Rattle.boxes.specs.Log.{Log, none, each}
use Rattle.boxes.specs.Model.{State as Box}
use Rattle.boxes.specs.Keeping.{refused}
use Rattle.boxes.specs.Handle.{happened, change_for, changed_at}
use Rattle.home.specs.declared.home.Home.{Home}
use Rattle.home.specs.Home.{is_ours, at}
use Rattle.home.specs.Inputs.{change_of, put_in}
use Rattle.home.specs.Queries.{engine}
use Rattle.home_laws.specs.Steps as homes
use Rattle.yard.specs.Yard as model
use Rattle.yard.specs.Yard.{put, by, Reach}
use Rattle.refinement.specs.Placed.{number_of, holder_told}
use Rattle.refinement.proofs.View.{Boxes, As, Sized}
use Rattle.refinement.proofs.Telling.{Going, going_said}
use Rattle.refinement.proofs.Sizing.{home_sized}
use Rattle.refinement.proofs.Handling.{HomeLaw, HeldLaw, Handled, Quiet, going_start, handled, home_going, quiet_based}

-- nobody is told to give back
begun_quiet : (x : State) (e : Engine) (s : Section) (c : ℕ) (w : Engine) (r : Result signs.Engine SignRefusal) → Quiet (begun_with x e s c w r).1
begun_quiet x e s c w (Ok y) = tt
begun_quiet x e s c w (Err r) = tt

passed_quiet : (x : State) (e : Engine) (m : ℕ) (s : Section) (c : ℕ) (k : Engine) (t : Bool) → Quiet (cond {A = State × Event} t (knowing x known.Had, event.Had e s) (begin_at x e m s c k)).1
passed_quiet x e m s c k true = tt
passed_quiet x e m s c k false = begun_quiet x e s c k (begin_of x.signs e.0 m k.0)

to_quiet : (x : State) (e : Engine) (m : ℕ) (s : Section) (c : ℕ) (h : Holder) → Quiet (passed_to x e m s c h).1
to_quiet x e m s c None = tt
to_quiet x e m s c (Some k) = passed_quiet x e m s c k (eqb k.0 e.0)

later_quiet : (x : State) (e : Engine) (m : ℕ) (s : Section) (h : Holder) (c : ℕ) (t : Bool) → Quiet (cond {A = State × Event} t (passed_to x e m s c h) (x, event.PassedOver)).1
later_quiet x e m s h c true = to_quiet x e m s c h
later_quiet x e m s h c false = tt

at_quiet : (x : State) (e : Engine) (m : ℕ) (s : Section) (h : Holder) (c : ℕ) → Quiet (change_at x e m s h c).1
unfolding change_at
at_quiet x e m s h c = later_quiet x e m s h c (is_later (wait_of x) s c)

ours_quiet : (h : Home) (e : Engine) (p : State × Event) (t : Bool) → Quiet p.1 → Quiet (cond {A = Home × Event} t (put_in h e p) (h, event.Refused refusal.Malformed)).1
ours_quiet h e p true k = k
ours_quiet h e p false k = tt

change_quiet : (h : Home) (e : Engine) (s : Section) (k : Holder) (c : ℕ) → Quiet (change_of h e s k c).1
change_quiet h e s k c = ours_quiet h e (change_at (at h e) e h.yard.engines s k c) (is_ours h e) (at_quiet (at h e) e h.yard.engines s k c)

module _ (y : sizes.Yard) (law : HomeLaw y) (held : HeldLaw y) (bs : Boxes) (z : model.Yard) (n : ℕ) (reach : Reach y.engines z) (in-yard : n < y.boxes)
    (s : Section) (h : Holder) (c : ℕ) (was : (z.section (number_of s)).past c ≡ holder_told h) (upto : c ≤ (z.section (number_of s)).change) (known : HolderIn y h) where
  record Both (p : Box × Log) : Type 0 where
    going : Going y bs z n p.0 p.1
    sized : Sized y n p.0

  one_changed : (e : ℕ) (p : Box × Log) → Both p → Both (happened p.0 (change_of p.0.home (engine e) s h c) p.1)
  one_changed e p b =
      record {
        going =
            home_going y law held bs z n reach in-yard p.0 p.1 b.sized b.going (homes.change (engine e) s h c)
            (rw b.going.sections was, rw b.going.sections upto, known)
            (λ x u k. quiet_based y z b.going.now b.going.sections x u (change_of p.0.home (engine e) s h c).1 (change_quiet p.0.home (engine e) s h c) k);
        sized = home_sized y n p.0 b.sized (homes.change (engine e) s h c);
      }

  if_changed : (e : ℕ) (p : Box × Log) (t : Bool) → Both p → Both (cond t (happened p.0 (change_of p.0.home (engine e) s h c) p.1) p)
  if_changed e p true b = one_changed e p b
  if_changed e p false b = b

  each_changed : (m : ℕ) (p : Box × Log) → Both p → Both (each (λ e. change_for s h c (engine e)) m p)
  unfolding each
  each_changed zero p b = b
  each_changed (suc m) p b =
      let q = each (λ e. change_for s h c (engine e)) m p in if_changed m q (is_ours q.0.home (engine m)) (each_changed m p b)

  pub change_handled : As y bs z → Sized y n (bs n) → (from : BoxNumber) → Handled y bs z n (changed_at (bs n) from s h c none)
  change_handled a k from = go (eqb from.0 s.keeper.0)
    where
      start : Both (bs n, none)
      start = record { going = going_start y bs z n a; sized = k }

      go : (t : Bool) → Handled y bs z n (cond t (each (λ e. change_for s h c (engine e)) (bs n).home.yard.engines (bs n, none)) (refused (bs n) none))
      go true = let b = each_changed (bs n).home.yard.engines (bs n, none) start in handled y bs z n _ _ b.going
      go false = handled y bs z n _ _ (going_said y bs z n (bs n) none (output.Refused refusal.Malformed) start.going tt)
