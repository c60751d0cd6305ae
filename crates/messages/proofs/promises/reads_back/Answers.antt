use Rattle.messages.proofs.Back.{reads_back}
use Rattle.messages.proofs.promises.reads_back.Goals as goal

pub returns : goal.returns
returns c = reads_back
