-- What follows a newline begins a line of its own.
use Rattle.box_run.proofs.Split.{cut_behind}
use Rattle.box_run.proofs.waiting.cut_at_a_newline.Goals as goal

pub returns : goal.returns
returns c = cut_behind
