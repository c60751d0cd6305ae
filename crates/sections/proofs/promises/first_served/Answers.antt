-- Who gets a section that is let go was the first of its queue.
use Rattle.sections.proofs.Runs.{first_is_served}
use Rattle.sections.proofs.promises.first_served.Goals as goal

pub returns : goal.returns
returns c = first_is_served
