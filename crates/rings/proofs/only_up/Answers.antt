-- The theorem, by its own proof.
-- Assumes nothing.
use Rattle.rings.proofs.Stays.{only_up}
use Rattle.rings.proofs.only_up.Goals as goal

pub returns : goal.returns
returns c = only_up
