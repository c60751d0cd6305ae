-- Cites the theorem.
use Rattle.yard.proofs.Runs.{telling_after_freeing}
use Rattle.yard.proofs.silence_once_freed_is_needed.Goals as goal

pub returns : goal.returns
returns c = telling_after_freeing
