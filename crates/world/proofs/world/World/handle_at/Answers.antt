use Rattle.std.proofs.Common.{rules}
use Rattle.std.proofs.lemmas.Result.{IfOk-weaker}
use Rattle.world.specs.Station.{handled_at}
use Rattle.world.proofs.OneBox.{stepped}
use Rattle.world.proofs.world.World.handle_at.Goals as goal

pub returns : goal.returns
returns c = IfOk-weaker c.turn_at.result _ _ (λ out e. stepped _ _ (handled_at c.args.input) _ _ (λ s p t. search rules) e) c.turn_at.ensures
