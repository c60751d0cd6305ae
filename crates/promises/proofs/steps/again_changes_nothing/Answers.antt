-- By the lemma of that name.
use Rattle.promises.proofs.Again.{again_changes_nothing}
use Rattle.promises.proofs.steps.again_changes_nothing.Goals as goal

pub returns : goal.returns
returns c = again_changes_nothing
