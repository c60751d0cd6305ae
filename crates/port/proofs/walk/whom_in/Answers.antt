-- The first place that gives one.
use Rattle.std.proofs.Common.{rules}
use Rattle.keeper.specs.Model.{model_of}
use Rattle.port.specs.Walk.{whom_at}
use Rattle.port.proofs.FindMap.{found_first}
use Rattle.port.proofs.walk.whom_in.Goals as goal

pub returns : goal.returns
returns c =
    found_first _ (whom_at (model_of c.args.keeper.now).table c.args.engine.0) _ (λ x o q called. search rules) _ c.find_map.result c.find_map.ensures.runs
