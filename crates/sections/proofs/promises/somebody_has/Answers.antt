-- Whoever waits for a section, somebody has it.
use Rattle.sections.proofs.Runs.{somebody_has}
use Rattle.sections.proofs.promises.somebody_has.Goals as goal

pub returns : goal.returns
returns c = somebody_has
