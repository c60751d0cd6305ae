use Rattle.std.proofs.Common.{rules}
use Rattle.std.proofs.lemmas.Result.{IfOk-weaker}
use Rattle.world.specs.Station.{delivered_at}
use Rattle.world.proofs.OneBox.{stepped}
use Rattle.world.proofs.world.World.deliver_at.Goals as goal

pub returns : goal.returns
returns c = IfOk-weaker c.turn_at.result _ _ (λ out e. stepped _ _ (delivered_at c.args.from c.args.bytes.now) _ _ (λ s p t. search rules) e) c.turn_at.ensures
