-- Cites the theorem.
use Rattle.yard.proofs.Promised.{own_differ}
use Rattle.yard.proofs.own_signs_differ.Goals as goal

pub returns : goal.returns
returns c = own_differ
