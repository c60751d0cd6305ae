-- Cites the theorem.
use Rattle.yard.proofs.Promised.{behind}
use Rattle.yard.proofs.comes_in_behind.Goals as goal

pub returns : goal.returns
returns c = behind
