-- Cites the theorem.
use Rattle.yard.proofs.Promised.{somebody_has}
use Rattle.yard.proofs.somebody_has_it.Goals as goal

pub returns : goal.returns
returns c = somebody_has
