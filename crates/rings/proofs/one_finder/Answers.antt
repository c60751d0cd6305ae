-- The theorem, by its own proof.
-- Assumes nothing.
use Rattle.rings.proofs.Relays.{one_finder}
use Rattle.rings.proofs.one_finder.Goals as goal

pub returns : goal.returns
returns c = one_finder
