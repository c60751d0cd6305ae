-- read what was written, digit by digit
use Rattle.one_box.proofs.Back.{reads_back}
use Rattle.one_box.proofs.script.reads_back.Goals as goal

pub returns : goal.returns
returns c = reads_back
