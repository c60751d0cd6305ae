-- Nobody overtakes.
use Rattle.sections.proofs.Runs.{nobody_overtakes}
use Rattle.sections.proofs.promises.nobody_overtakes.Goals as goal

pub returns : goal.returns
returns c = nobody_overtakes
