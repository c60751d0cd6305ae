use Rattle.std.proofs.Common.{◌-◌, length, vec_items}
use Rattle.messages.proofs.Fronts.{SoFar}
use Rattle.messages.proofs.records.reading.read_records.Given as goal

abbrev pub invariant-loop-record : goal.invariant-loop-record
invariant-loop-record l = SoFar l.yard l.bytes (vec_items l.records) l.length

abbrev pub decreases-loop-record : goal.decreases-loop-record
decreases-loop-record l = length l.bytes - l.length
