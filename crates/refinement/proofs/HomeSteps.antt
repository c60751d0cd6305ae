-- Whatever comes to a home is a run of the model: the calls that its engines make, and what they hear.
use Rattle.std.proofs.Common.{ℕ, ◌<◌}
use Rattle.messages.specs.declared.yard.Yard as sizes
use Rattle.home_laws.specs.Steps as homes
use Rattle.yard.specs.Yard as model
use Rattle.yard.specs.Yard.{Reach}
use Rattle.refinement.proofs.Hearing.{own_answer, own_change, own_sign}
use Rattle.refinement.proofs.Homes.{home_step_by}
use Rattle.refinement.proofs.View.{Boxes, Sized, As, MayCome, HomeStep}

pub home_step : {y : sizes.Yard} {bs : Boxes} {z : model.Yard} {n : ℕ} → Reach y.engines z → n < y.boxes → Sized y n (bs n) → As y bs z → (i : homes.Input) → MayCome y bs z i → HomeStep y bs z n i
home_step = home_step_by (record { answer = own_answer; change = own_change; sign = own_sign })
