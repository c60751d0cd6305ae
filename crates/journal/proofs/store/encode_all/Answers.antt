use Rattle.std.proofs.Common.{◌∙◌}
use Rattle.journal.proofs.Storing.{encode_more}
use Rattle.journal.proofs.store.encode_all.Goals as goal

pub loop-record-preserved : goal.loop-record-preserved
loop-record-preserved c =
    encode_more c.args.records.now c.loop-record.record-index _ _ _ _ c.loop-record-test.true c.loop-record.invariant (c.as_slice.ensures ∙ c.encode_record.ensures)
    c.in_ok-extend_from_slice.ensures.items
