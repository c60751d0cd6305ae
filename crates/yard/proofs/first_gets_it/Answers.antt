-- Cites the theorem.
use Rattle.yard.proofs.Promised.{first_gets}
use Rattle.yard.proofs.first_gets_it.Goals as goal

pub returns : goal.returns
returns c = first_gets
