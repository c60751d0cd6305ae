use Rattle.lines.proofs.Whole.{line_to_message}
use Rattle.lines.proofs.promises.line_to_message.Goals as goal

pub returns : goal.returns
returns c = line_to_message
