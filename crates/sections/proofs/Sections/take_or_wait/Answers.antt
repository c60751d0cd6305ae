-- what the call made of the row is what it comes to: fair, and in order again
use Rattle.sections.proofs.Rows.{absent, take_owed, take_told}
use Rattle.sections.proofs.Sections.take_or_wait.Goals as goal

pub take-requires-clause-absent : goal.take-requires-clause-absent
take-requires-clause-absent c = absent c.args.self.now c.args.engine c.args.place c.index-rows-place.result c.in_ok-admit.ensures

pub invariant_of-self : goal.invariant_of-self
invariant_of-self c = take_owed c.args.self.now c.args.engine c.args.place c.index-rows-place.result c.take.new.self c.take.result c.in_ok-admit.ensures c.take.ensures

pub returns : goal.returns
returns c = take_told c.args.self.now c.args.engine c.args.place c.index-rows-place.result c.take.new.self c.take.result c.in_ok-admit.ensures c.take.ensures
