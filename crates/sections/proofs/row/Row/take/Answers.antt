-- who joins waited nowhere, and another has the section
use Rattle.sections.specs.Layout.{section_of}
use Rattle.sections.proofs.Rows.{row_order}
use Rattle.sections.proofs.Sound.{joined_order}
use Rattle.sections.proofs.row.Row.take.Goals as goal

pub invariant_of-self-in-Some-2 : goal.invariant_of-self-in-Some-2
invariant_of-self-in-Some-2 c =
    let r = c.args.self.now in
    let order = joined_order (section_of r) c.args.engine c.in-Some.holder (row_order r) c.requires.known c.requires.absent c.in-Some.is c.if-holder-engine.false in
    record { others = rw c.join.ensures order.others; had = rw c.join.ensures order.had; holders = order.holders }
