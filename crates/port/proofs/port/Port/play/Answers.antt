-- One step more, and what every step from a world that steps lead to promises.
use mathlib.Core.Logic.{∥∥₁_map}
use Rattle.world.specs.World.{answer_of, world_of}
use Rattle.port.proofs.Promised.{step_promised}
use Rattle.port.proofs.Reach.{step_on}
use Rattle.port.proofs.port.Port.play.Goals as goal

pub invariant_of-result : goal.invariant_of-result
invariant_of-result c =
    record {
      reached =
          ∥∥₁_map c.args.self.reached
          (λ r. step_on (world_of c.args.self.world) (world_of c.play.new.self) c.args.step (answer_of c.in_ok-outcome.outcome) r c.in_ok-outcome.ensures);
    }

pub returns : goal.returns
returns c =
    record {
      step = c.in_ok-outcome.ensures;
      promised =
          ∥∥₁_map c.args.self.reached
          (λ r. step_promised (world_of c.args.self.world) (world_of c.play.new.self) c.args.step (answer_of c.in_ok-outcome.outcome) r c.in_ok-outcome.ensures);
    }
