-- by induction over the calls
use Rattle.keeper.proofs.Runs.{answer_stands as proved}
use Rattle.keeper.proofs.promises.answer_stands.Goals as goal

pub returns : goal.returns
returns c = proved
