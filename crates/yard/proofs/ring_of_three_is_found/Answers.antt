-- Cites the theorem.
use Rattle.yard.proofs.Runs.{ring_of_three}
use Rattle.yard.proofs.ring_of_three_is_found.Goals as goal

pub returns : goal.returns
returns c = ring_of_three
