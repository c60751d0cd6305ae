-- what the call made of the row is what it comes to: fair, and in order again
use Rattle.std.proofs.Common.{sym, ◌∙◌}
use Rattle.sections.proofs.Rows.{give_up_owed, give_up_told, in_range_known}
use Rattle.sections.proofs.Sections.give_up.Goals as goal

pub invariant_of-self : goal.invariant_of-self
invariant_of-self c = give_up_owed c.args.self.now c.args.engine c.args.place c.index-rows-place.result c.give_up.new.self c.give_up.result (in_range_known _ _ (sym c.in_range.ensures ∙ c.in_ok-in_range.was)) c.give_up.ensures

pub returns : goal.returns
returns c = give_up_told c.args.self.now c.args.engine c.args.place c.index-rows-place.result c.give_up.new.self c.give_up.result (in_range_known _ _ (sym c.in_range.ensures ∙ c.in_ok-in_range.was)) c.give_up.ensures
