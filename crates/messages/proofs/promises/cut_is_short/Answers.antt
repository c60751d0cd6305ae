use Rattle.messages.proofs.Fronts.{cut_is_short}
use Rattle.messages.proofs.promises.cut_is_short.Goals as goal

pub returns : goal.returns
returns c = cut_is_short
