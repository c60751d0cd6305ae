-- By what each step makes of one box's sections.
use Rattle.promises.proofs.InTurn.{each_in_turn}
use Rattle.promises.proofs.steps.in_turn.Goals as goal

pub returns : goal.returns
returns c = each_in_turn
