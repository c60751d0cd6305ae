-- The theorem, by its own proof.
-- Assumes nothing.
use Rattle.rings.proofs.Carried.{found_in_any_run}
use Rattle.rings.proofs.found_in_any_run.Goals as goal

pub returns : goal.returns
returns c = found_in_any_run
