-- Place by place, by the law of the fresh arrays.
-- Assumes nothing.
use Rattle.signs.proofs.Places.{fresh_signs}
use Rattle.signs.proofs.table.fresh_signs.Goals as goal

pub returns : goal.returns
returns c = fresh_signs
