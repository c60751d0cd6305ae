-- The first box that gives one.
use Rattle.std.proofs.Common.{ℕ, Option, rules, ap, ◌∙◌}
use Rattle.messages.specs.Holder.{Holder}
use Rattle.messages.specs.declared.yard.Yard.{Yard}
use Rattle.world.specs.World.{box_at, state_at, world_of}
use Rattle.port.specs.Walk.{first_from, whom_by}
use Rattle.port.proofs.FindMap.{found_first}
use Rattle.port.proofs.Looking.{first_start}
use Rattle.port.proofs.walk.whom.Goals as goal

pub returns : goal.returns
returns c =
    let under : ℕ → Option Holder = λ b. whom_by c.args.engine.0 (state_at (world_of c.args.world.now) (box_at b)) in
    found_first _ under _ (λ x o q called. search rules) _ c.find_map.result c.find_map.ensures.runs
    ∙ first_start under c.yard.result.boxes ∙ ap (λ (y : Yard). first_from under y.boxes 0) c.yard.ensures
