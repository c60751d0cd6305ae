use Rattle.std.proofs.Common.{sym, ◌∙◌, arith}
use Rattle.messages.proofs.Fronts.{first_whole}
use Rattle.messages.proofs.records.reading.first_record.Goals as goal

pub returns-in-Some-whole_record : goal.returns-in-Some-whole_record
returns-in-Some-whole_record c =
    first_whole c.args.yard c.args.bytes.now c.in-Some.length c.in-Some-whole_record.record (λ i. omega (arith, c.type_inv.bytes i))
    (sym c.size_of.ensures ∙ c.in-Some.is) c.if-bytes-length.false (sym c.whole_record.ensures ∙ c.in-Some-whole_record.is)
