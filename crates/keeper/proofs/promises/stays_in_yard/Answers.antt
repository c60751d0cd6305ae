-- by induction over the calls
use Rattle.keeper.proofs.Reach.{stays_in_yard as proved}
use Rattle.keeper.proofs.promises.stays_in_yard.Goals as goal

pub returns : goal.returns
returns c = proved
