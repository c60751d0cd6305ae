-- what the call made of the row is what it comes to: fair, and in order again
use Rattle.sections.proofs.Rows.{free_owed, free_told}
use Rattle.sections.proofs.Sections.free.Goals as goal

pub invariant_of-self : goal.invariant_of-self
invariant_of-self c = free_owed c.args.self.now c.args.engine c.args.place c.index-rows-place.result c.free.new.self c.free.result c.in_ok-admit.ensures c.free.ensures

pub returns : goal.returns
returns c = free_told c.args.self.now c.args.engine c.args.place c.index-rows-place.result c.free.new.self c.free.result c.in_ok-admit.ensures c.free.ensures
