-- Cites the theorem.
use Rattle.yard.proofs.Promised.{only_rises}
use Rattle.yard.proofs.shown_rises.Goals as goal

pub returns : goal.returns
returns c = only_rises
