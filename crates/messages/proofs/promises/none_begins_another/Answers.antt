use Rattle.messages.proofs.Lengths.{none_begins_another}
use Rattle.messages.proofs.promises.none_begins_another.Goals as goal

pub returns : goal.returns
returns c = none_begins_another
