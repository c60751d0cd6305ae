-- Cites the theorem.
use Rattle.yard.proofs.Telling.{found}
use Rattle.yard.proofs.every_ring_is_found.Goals as goal

pub returns : goal.returns
returns c = found
