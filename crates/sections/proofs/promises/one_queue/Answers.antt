-- nor for two.
use Rattle.sections.proofs.Runs.{one_queue}
use Rattle.sections.proofs.promises.one_queue.Goals as goal

pub returns : goal.returns
returns c = one_queue
