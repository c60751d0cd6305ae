-- The theorem, by its own proof.
-- Assumes nothing.
use Rattle.rings.proofs.Stays.{ring_stays}
use Rattle.rings.proofs.ring_stays.Goals as goal

pub returns : goal.returns
returns c = ring_stays
