-- Each wait of a ring stays, section by section.
use Rattle.promises.proofs.Told.{ring_stays}
use Rattle.promises.proofs.rings.ring_stays.Goals as goal

pub returns : goal.returns
returns c = ring_stays
