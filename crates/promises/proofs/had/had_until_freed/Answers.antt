-- One that isn't freeing a section keeps it.
use Rattle.promises.proofs.Having.{had as proved}
use Rattle.promises.proofs.had.had_until_freed.Goals as goal

pub returns : goal.returns
returns c = proved
