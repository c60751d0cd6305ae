-- Cites the theorem.
use Rattle.yard.proofs.Promised.{one_at_a_time}
use Rattle.yard.proofs.one_at_a_time.Goals as goal

pub returns : goal.returns
returns c = one_at_a_time
