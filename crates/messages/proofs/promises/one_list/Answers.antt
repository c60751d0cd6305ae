use Rattle.messages.proofs.Fronts.{one_list}
use Rattle.messages.proofs.promises.one_list.Goals as goal

pub returns : goal.returns
returns c = one_list
