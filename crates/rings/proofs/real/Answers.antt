-- The theorem, by its own proof.
-- Assumes nothing.
use Rattle.rings.proofs.Relays.{is_real}
use Rattle.rings.proofs.real.Goals as goal

pub returns : goal.returns
returns c = is_real
