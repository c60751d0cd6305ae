-- The finder of the model stands in a ring of the world.
use Rattle.promises.proofs.Told.{told_in_a_ring}
use Rattle.promises.proofs.rings.told_in_a_ring.Goals as goal

pub returns : goal.returns
returns c = told_in_a_ring
