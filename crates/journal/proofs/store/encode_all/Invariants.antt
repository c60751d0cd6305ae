use Rattle.std.proofs.Common.{◌≡◌, take, vec_items}
use Rattle.messages.specs.Journal.{written}
use Rattle.journal.proofs.store.encode_all.Given as goal

abbrev pub invariant-loop-record : goal.invariant-loop-record
invariant-loop-record l = vec_items l.bytes ≡ written (take l.record-index l.records)
