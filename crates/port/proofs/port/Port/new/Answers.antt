-- The world in which nothing has happened is reached by no step.
use Rattle.world.specs.World.{world_of}
use Rattle.port.proofs.Reach.{from_nothing}
use Rattle.port.proofs.port.Port.new.Goals as goal

pub invariant_of-result : goal.invariant_of-result
invariant_of-result c = record { reached = ∣ from_nothing (world_of c.in_ok-world.world) c.args.yard c.in_ok-world.ensures ∣₁ }
