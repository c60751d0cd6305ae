-- Cites the theorem.
use Rattle.yard.proofs.Rounds.{stays}
use Rattle.yard.proofs.ring_stays.Goals as goal

pub returns : goal.returns
returns c = stays
