-- Who stands in a queue is one of the list.
use Rattle.std.proofs.Common.{rules}
use Rattle.keeper.specs.Model.{model_of}
use Rattle.sections.specs.Table.{queue_at}
use Rattle.port.proofs.Looking.{any_in}
use Rattle.port.proofs.walk.stands.Goals as goal

pub returns : goal.returns
returns c = let same = any_in c.args.engine.0 (queue_at (model_of c.args.keeper.now).table c.args.place) in search rules
