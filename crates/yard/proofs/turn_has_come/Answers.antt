-- Cites the theorem.
use Rattle.yard.proofs.Promised.{turn_has_come}
use Rattle.yard.proofs.turn_has_come.Goals as goal

pub returns : goal.returns
returns c = turn_has_come
