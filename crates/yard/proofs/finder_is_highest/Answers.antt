-- Cites the theorem.
use Rattle.yard.proofs.Rounds.{highest}
use Rattle.yard.proofs.finder_is_highest.Goals as goal

pub returns : goal.returns
returns c = highest
