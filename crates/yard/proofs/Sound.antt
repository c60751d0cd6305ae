-- All invariants hold in every yard that a run leads to.
-- Assumes nothing.
use Rattle.std.proofs.Common.{ℕ, List, ◌++◌}
use Rattle.yard.specs.Yard.{Yard, Act, May, after, Run, still, then, Reach}
use Rattle.yard.proofs.Places.{Placed, placed_start, placed_after}
use Rattle.yard.proofs.Signs.{Signed, signed_start, signed-after}
use Rattle.yard.proofs.Relays.{Relayed, relayed_start, relayed-after}
use Rattle.yard.proofs.Covered.{AllCovered, covered_start, all_covered_after}

pub record Sound (engines : ℕ) (y : Yard) : Type 0 where
  pub places : Placed engines y
  pub signs : Signed engines y
  pub relays : Relayed engines y
  pub covers : AllCovered y

pub sound_after : {engines : ℕ} {y : Yard} → Sound engines y → (a : Act) → May engines y a → Sound engines (after y a)
sound_after h a g =
    record {
      places = placed_after h.places a g;
      signs = signed-after h.places h.signs a g;
      relays = relayed-after h.places h.signs a g h.relays;
      covers = all_covered_after h.places h.signs a g h.covers;
    }

pub sound_run : {engines : ℕ} {y z : Yard} {acts : List Act} → Sound engines y → Run engines y acts z → Sound engines z
sound_run h still = h
sound_run h (then r a g) = sound_after (sound_run h r) a g

-- one run after another
pub run_on : {engines : ℕ} {x y z : Yard} {before later : List Act} → Run engines x before y → Run engines y later z → Run engines x (later ++ before) z
run_on r still = r
run_on r (then t a g) = then (run_on r t) a g

pub reach_on : {engines : ℕ} {y z : Yard} {acts : List Act} → Reach engines y → Run engines y acts z → Reach engines z
reach_on {acts = acts} r t = (acts ++ r.0, run_on r.1 t)

pub sound : {engines : ℕ} {y : Yard} → Reach engines y → Sound engines y
sound {engines} r =
    sound_run (record { places = placed_start engines; signs = signed_start engines; relays = relayed_start engines; covers = covered_start }) r.1
