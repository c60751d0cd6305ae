-- What the outputs so far send has been added.
use Rattle.std.proofs.Common.{◌≡◌, ◌++◌, map, take, vec_items}
use Rattle.std.specs.List.{flat_map}
use Rattle.world.specs.World.{envelope_of, sent_by}
use Rattle.world.proofs.world.playing.send_all.Given as goal

abbrev pub invariant-loop-output : goal.invariant-loop-output
invariant-loop-output l = map envelope_of (vec_items l.sent) ≡ map envelope_of (vec_items l.initial.sent) ++ flat_map (sent_by l.from) (take l.output-index l.outputs)
