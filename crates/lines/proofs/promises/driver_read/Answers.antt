use Rattle.lines.proofs.Back.{driver_read}
use Rattle.lines.proofs.promises.driver_read.Goals as goal

pub returns : goal.returns
returns c = driver_read
