-- by induction over the calls
use Rattle.keeper.proofs.Runs.{replays as proved}
use Rattle.keeper.proofs.promises.replays.Goals as goal

pub returns : goal.returns
returns c = proved
