-- Cites the theorem.
use Rattle.yard.proofs.Runs.{earlier_count}
use Rattle.yard.proofs.this_count_is_needed.Goals as goal

pub returns : goal.returns
returns c = earlier_count
