use Rattle.messages.proofs.Replayed.{cut_reads_back}
use Rattle.messages.proofs.promises.cut_reads_back.Goals as goal

pub returns : goal.returns
returns c = cut_reads_back
