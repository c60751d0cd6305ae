use Rattle.messages.proofs.Forms.{one_form}
use Rattle.messages.proofs.promises.one_form.Goals as goal

pub returns : goal.returns
returns c = one_form
