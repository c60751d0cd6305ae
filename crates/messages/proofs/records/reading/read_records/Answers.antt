use Rattle.std.proofs.Common.{◌+◌, List, vec_items, sym, subst}
use Rattle.messages.specs.declared.message.Record.{Record}
use Rattle.messages.specs.declared.records.First.TheVariants as first
use Rattle.messages.proofs.Fronts.{SoFar, rest_is, so_far_damaged, so_far_more}
use Rattle.messages.proofs.records.reading.read_records.Goals as goal

pub loop-record-preserved : goal.loop-record-preserved
loop-record-preserved c =
    let P : List Record → Type 0 = λ rs. SoFar c.args.yard c.args.bytes.now rs (c.loop-record.length + c.in-Whole.more) in
    subst P (sym c.in_ok-push-in-Whole.ensures.items)
    (so_far_more c.args.yard c.args.bytes.now (vec_items c.loop-record.records) c.loop-record.length c.in-Whole.more c.in-Whole.record c.loop-record.invariant
    (rest_is c.args.yard c.args.bytes.now c.loop-record.length (first.Whole c.in-Whole.record c.in-Whole.more) c.in-Whole.ensures))

pub returns-in-Damaged : goal.returns-in-Damaged
returns-in-Damaged c =
    so_far_damaged c.args.yard c.args.bytes.now (vec_items c.loop-record.records) c.loop-record.length c.loop-record.invariant
    (rest_is c.args.yard c.args.bytes.now c.loop-record.length first.Damaged c.in-Damaged.ensures)
