-- a queue that an engine left is in order
use Rattle.sections.specs.Layout.{section_of}
use Rattle.sections.proofs.Rows.{row_order}
use Rattle.sections.proofs.Sound.{left_order}
use Rattle.sections.proofs.row.Row.give_up.Goals as goal

pub invariant_of-self : goal.invariant_of-self
invariant_of-self c =
    let r = c.args.self.now in
    let order = left_order (section_of r) c.args.engine (row_order r) in
    record { others = rw c.leave.ensures order.others; had = rw c.leave.ensures order.had; holders = order.holders }
