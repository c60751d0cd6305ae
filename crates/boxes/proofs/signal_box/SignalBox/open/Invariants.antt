-- After index turns the box is what the first records, as many, made of it.
use Rattle.std.proofs.Common.{◌≡◌, drop}
use Rattle.boxes.specs.Model.{state_of}
use Rattle.boxes.specs.Opening.{open_from}
use Rattle.boxes.proofs.signal_box.SignalBox.open.Given as goal

abbrev pub invariant-loop-index : goal.invariant-loop-index
invariant-loop-index l = open_from l.index (drop l.index l.records) (state_of l.opened) ≡ open_from 0 l.records (state_of l.initial.opened)
