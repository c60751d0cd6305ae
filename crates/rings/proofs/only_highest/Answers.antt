-- The theorem, by its own proof.
-- Assumes nothing.
use Rattle.rings.proofs.Relays.{only_highest}
use Rattle.rings.proofs.only_highest.Goals as goal

pub returns : goal.returns
returns c = only_highest
