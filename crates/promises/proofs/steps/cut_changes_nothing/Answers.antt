-- By the lemma of that name.
use Rattle.promises.proofs.Stops.{cut_changes_nothing}
use Rattle.promises.proofs.steps.cut_changes_nothing.Goals as goal

pub returns : goal.returns
returns c = cut_changes_nothing
