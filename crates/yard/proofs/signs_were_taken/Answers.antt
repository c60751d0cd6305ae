-- Cites the theorem.
use Rattle.yard.proofs.Promised.{only_taken}
use Rattle.yard.proofs.signs_were_taken.Goals as goal

pub returns : goal.returns
returns c = only_taken
