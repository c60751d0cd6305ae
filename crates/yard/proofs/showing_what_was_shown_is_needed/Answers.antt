-- Cites the theorem.
use Rattle.yard.proofs.Runs.{own_sign_again}
use Rattle.yard.proofs.showing_what_was_shown_is_needed.Goals as goal

pub returns : goal.returns
returns c = own_sign_again
