-- by induction over the calls
use Rattle.keeper.proofs.Runs.{numbers_rise as proved}
use Rattle.keeper.proofs.promises.numbers_rise.Goals as goal

pub returns : goal.returns
returns c = proved
