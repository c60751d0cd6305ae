-- By the lemma of that name.
use Rattle.promises.proofs.Away.{turned_away}
use Rattle.promises.proofs.steps.turned_away.Goals as goal

pub returns : goal.returns
returns c = turned_away
