-- The theorem, by its own proof.
-- Assumes nothing.
use Rattle.rings.proofs.Stays.{own_signs}
use Rattle.rings.proofs.own_signs.Goals as goal

pub returns : goal.returns
returns c = own_signs
