-- Either there is an output more or there isn't, and what it makes of the box is a function.
use Rattle.box_run.proofs.OneWay.{one_way}
use Rattle.box_run.proofs.own.settles_one_way.Goals as goal

pub returns : goal.returns
returns c = one_way
