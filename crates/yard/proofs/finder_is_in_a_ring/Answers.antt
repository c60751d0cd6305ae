-- Cites the theorem.
use Rattle.yard.proofs.Rounds.{real}
use Rattle.yard.proofs.finder_is_in_a_ring.Goals as goal

pub returns : goal.returns
returns c = real
