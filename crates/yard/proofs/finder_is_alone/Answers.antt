-- Cites the theorem.
use Rattle.yard.proofs.Rounds.{alone}
use Rattle.yard.proofs.finder_is_alone.Goals as goal

pub returns : goal.returns
returns c = alone
