-- By induction on what came.
use Rattle.box_laws.proofs.Runs.{records_stand_for_it}
use Rattle.box_laws.proofs.records_stand_for_it.Goals as goal

pub returns : goal.returns
returns c = records_stand_for_it
