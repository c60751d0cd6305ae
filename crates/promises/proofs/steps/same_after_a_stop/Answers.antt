-- By the lemma of that name.
use Rattle.promises.proofs.Stops.{same_after_a_stop}
use Rattle.promises.proofs.steps.same_after_a_stop.Goals as goal

pub returns : goal.returns
returns c = same_after_a_stop
