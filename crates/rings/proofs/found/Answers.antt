-- The theorem, by its own proof.
-- Assumes nothing.
use Rattle.rings.proofs.Told.{is_found}
use Rattle.rings.proofs.found.Goals as goal

pub returns : goal.returns
returns c = is_found
