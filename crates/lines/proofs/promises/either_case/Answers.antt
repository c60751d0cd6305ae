use Rattle.lines.proofs.Capitals.{either_case}
use Rattle.lines.proofs.promises.either_case.Goals as goal

pub returns : goal.returns
returns c = either_case
