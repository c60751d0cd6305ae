use Rattle.lines.proofs.Back.{reads_back}
use Rattle.lines.proofs.promises.reads_back.Goals as goal

pub returns : goal.returns
returns c = reads_back
