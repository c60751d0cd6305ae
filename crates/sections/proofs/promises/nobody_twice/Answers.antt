-- Nobody waits twice for a section,
use Rattle.sections.proofs.Runs.{nobody_twice}
use Rattle.sections.proofs.promises.nobody_twice.Goals as goal

pub returns : goal.returns
returns c = nobody_twice
