-- the first of a queue in order has the section now, and the rest is in order
use Rattle.sections.specs.Layout.{section_of}
use Rattle.sections.proofs.Rows.{row_order}
use Rattle.sections.proofs.Sound.{passed_order}
use Rattle.sections.proofs.row.Row.free.Goals as goal

pub invariant_of-self : goal.invariant_of-self
invariant_of-self c =
    let r = c.args.self.now in
    let order = passed_order (section_of r) (row_order r) in
    rw (c.leave_first-self.ensures.first, c.leave_first-self.ensures.rest) (record { others = order.others; had = order.had; holders = order.holders })
