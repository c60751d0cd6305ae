use Rattle.lines.proofs.Fits.{every_message}
use Rattle.lines.proofs.promises.every_message.Goals as goal

pub returns : goal.returns
returns c = every_message
