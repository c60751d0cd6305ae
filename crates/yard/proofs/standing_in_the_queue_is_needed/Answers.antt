-- Cites the theorem.
use Rattle.yard.proofs.Runs.{sign_before_queue}
use Rattle.yard.proofs.standing_in_the_queue_is_needed.Goals as goal

pub returns : goal.returns
returns c = sign_before_queue
