-- The first records, be there so many or not, and never more bytes than all records have.
use Rattle.std.proofs.Common.{◌∙◌, arith}
use Rattle.box_run.proofs.Bytes.{at_most_all, first_counted}
use Rattle.box_run.proofs.coming_up.opening.byte_of.Goals as goal

pub bytes_of-requires : goal.bytes_of-requires
bytes_of-requires c =
    let rs = c.args.records.now in
    omega (arith, c.requires, first_counted rs c.args.index c.min.result c.min.ensures, at_most_all rs c.args.index)

pub returns : goal.returns
returns c = c.bytes_of.ensures ∙ first_counted c.args.records.now c.args.index c.min.result c.min.ensures
