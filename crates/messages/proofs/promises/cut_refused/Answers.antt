use Rattle.messages.proofs.Cuts.{cut_refused}
use Rattle.messages.proofs.promises.cut_refused.Goals as goal

pub returns : goal.returns
returns c = cut_refused
