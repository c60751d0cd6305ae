-- Cites the theorem.
use Rattle.yard.proofs.EveryRun.{found_in_every_run}
use Rattle.yard.proofs.found_in_every_run.Goals as goal

pub returns : goal.returns
returns c = found_in_every_run
