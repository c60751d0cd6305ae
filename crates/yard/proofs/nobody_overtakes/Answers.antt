-- Cites the theorem.
use Rattle.yard.proofs.Promised.{no_overtaking}
use Rattle.yard.proofs.nobody_overtakes.Goals as goal

pub returns : goal.returns
returns c = no_overtaking
