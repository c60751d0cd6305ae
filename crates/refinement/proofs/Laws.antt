-- The steps of homes and keepers, put together: every input of a box is a run of the model.
use Rattle.std.proofs.Common.{◌≡◌, ℕ, ◌<◌, Bool, true, false, cond, refl, subst, arith}
use Rattle.messages.specs.declared.yard.BoxNumber.{BoxNumber}
use Rattle.messages.specs.declared.yard.Engine.{Engine}
use Rattle.messages.specs.declared.yard.Section.{Section}
use Rattle.messages.specs.declared.yard.Yard as sizes
use Rattle.messages.specs.declared.message.Message.{Message}
use Rattle.messages.specs.Range.{MessageIn}
use Rattle.engine_state.specs.Calls.{holds_of}
use Rattle.boxes.specs.Log.{none}
use Rattle.boxes.specs.Handle.{handle_of, received_of}
use Rattle.boxes.specs.declared.signal_box.Input.TheVariants as input
use Rattle.home.specs.Home.{is_ours, at}
use Rattle.home_laws.specs.Steps as homes
use Rattle.yard.specs.Yard as model
use Rattle.yard.specs.Yard.{by, Reach}
use Rattle.refinement.specs.Placed.{number_of}
use Rattle.refinement.proofs.View.{As, Boxes, EngineAs, Sized, True, last_at}
use Rattle.refinement.proofs.Making.{holds}
use Rattle.refinement.proofs.HomeSteps.{home_step}
use Rattle.refinement.proofs.Keepers.{keeper_step}
use Rattle.refinement.proofs.Handling.{HeldLaw, Handled, HomeLaw, home_handled}
use Rattle.refinement.proofs.Receiving.{KeeperLaw, received_handled}
use Rattle.refinement.proofs.Seconds.{ours, second_handled}

-- an engine of a box, as the model has it
pub engine_at : (y : sizes.Yard) (bs : Boxes) (z : model.Yard) (n : ℕ) → Sized y n (bs n) → As y bs z → (j : Engine) → is_ours (bs n).home j ≡ true →
    EngineAs y (λ b. last_at bs b j.0) (at (bs n).home j) z j.0
engine_at y bs z n k a j q =
    let o = ours y n (bs n) k j q in
    subst (λ (b : ℕ). EngineAs y (λ c. last_at bs c j.0) (at (bs b).home j) z j.0) o.1 (a.engines j.0 o.0)

pub held_law : (y : sizes.Yard) → HeldLaw y
held_law y bs z n i k a j s h = go (is_ours (bs n).home j) refl h
  where
    go : (t : Bool) → is_ours (bs n).home j ≡ t → cond t (holds_of (at (bs n).home j) s) false ≡ true → model.holder z (number_of s) ≡ by j.0
    go true q p = holds (engine_at y bs z n k a j q) s p
    go false q p = elim (clash p) [ ]
      where
        clash : false ≡ true → ⊥
        clash r = let w : ◌≡◌ {A = ℕ} 0 1 = cc in omega arith

pub home_law : (y : sizes.Yard) → HomeLaw y
home_law y bs z n r i k a = home_step r i k a

pub keeper_law : (y : sizes.Yard) → KeeperLaw y
keeper_law y bs z n r i k a c p q from t = keeper_step n from r i k a c p q t

module _ (y : sizes.Yard) (bs : Boxes) (z : model.Yard) (n : ℕ) (reach : Reach y.engines z) (in-yard : n < y.boxes) (a : As y bs z) (k : Sized y n (bs n)) where
  pub take_is_run : (e : Engine) (s : Section) → Handled y bs z n (handle_of (bs n) (input.Take e s) none)
  take_is_run e s = home_handled y (home_law y) (held_law y) bs z n reach in-yard a k (homes.take e s) tt

  pub free_is_run : (e : Engine) (s : Section) → Handled y bs z n (handle_of (bs n) (input.Free e s) none)
  free_is_run e s = home_handled y (home_law y) (held_law y) bs z n reach in-yard a k (homes.free e s) tt

  pub second_is_run : Handled y bs z n (handle_of (bs n) input.Second none)
  second_is_run = second_handled y (held_law y) bs z n reach in-yard a k

  pub message_is_run : (from : BoxNumber) → from.0 < y.boxes → (m : Message) → MessageIn y m → True y bs z from m → Handled y bs z n (received_of (bs n) from m none)
  message_is_run = received_handled y (home_law y) (held_law y) (keeper_law y) bs z n reach in-yard a k
