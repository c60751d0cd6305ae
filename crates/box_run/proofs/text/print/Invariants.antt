-- The lines of the outputs so far.
use Rattle.std.proofs.Common.{◌≡◌, take, vec_items}
use Rattle.std.specs.List.{flat_map}
use Rattle.box_run.specs.Text.{printed}
use Rattle.box_run.proofs.text.print.Given as goal

abbrev pub invariant-loop-output : goal.invariant-loop-output
invariant-loop-output l = vec_items l.text ≡ flat_map (printed l.own) (take l.output-index l.outputs)
