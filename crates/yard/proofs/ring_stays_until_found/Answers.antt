-- Cites the theorem.
use Rattle.yard.proofs.Rounds.{stays_until_found}
use Rattle.yard.proofs.ring_stays_until_found.Goals as goal

pub returns : goal.returns
returns c = stays_until_found
