-- The theorem, by its own proof.
-- Assumes nothing.
use Rattle.rings.proofs.Tied.{code_steps}
use Rattle.rings.proofs.code_steps.Goals as goal

pub returns : goal.returns
returns c = code_steps
