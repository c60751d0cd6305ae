-- One box of many comes up from its file, or there is none.
use Rattle.std.proofs.lemmas.Result.{IfOk-weaker}
use Rattle.world.proofs.OneBox.{stopped}
use Rattle.world.proofs.world.World.stop.Goals as goal

pub returns : goal.returns
returns c = IfOk-weaker c.turn_at.result _ _ (λ out e. stopped _ _ _ _ _ (λ before after told t. t) e) c.turn_at.ensures
