-- Cites the theorem.
use Rattle.yard.proofs.Runs.{kept_sign}
use Rattle.yard.proofs.new_sign_is_needed.Goals as goal

pub returns : goal.returns
returns c = kept_sign
