-- Cites the theorem.
use Rattle.yard.proofs.Promised.{in_one_place}
use Rattle.yard.proofs.one_place.Goals as goal

pub returns : goal.returns
returns c = in_one_place
