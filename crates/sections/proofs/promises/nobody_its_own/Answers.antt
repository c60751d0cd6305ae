-- nor for one that it has,
use Rattle.sections.proofs.Runs.{nobody_its_own}
use Rattle.sections.proofs.promises.nobody_its_own.Goals as goal

pub returns : goal.returns
returns c = nobody_its_own
