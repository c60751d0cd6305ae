-- At most one has a section.
use Rattle.sections.proofs.Runs.{one_holder}
use Rattle.sections.proofs.promises.one_holder.Goals as goal

pub returns : goal.returns
returns c = one_holder
