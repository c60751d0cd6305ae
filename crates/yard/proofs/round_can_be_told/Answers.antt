-- Cites the theorem.
use Rattle.yard.proofs.Runs.{round_can_be_told}
use Rattle.yard.proofs.round_can_be_told.Goals as goal

pub returns : goal.returns
returns c = round_can_be_told
