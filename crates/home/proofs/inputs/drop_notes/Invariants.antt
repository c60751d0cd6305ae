-- Those that were passed are dropped or kept; the rest is as it was.
use Rattle.std.proofs.Common.{◌≡◌, ◌++◌, map, take, drop}
use Rattle.home.specs.Inputs.{unless_for}
use Rattle.home.proofs.inputs.drop_notes.Given as goal

abbrev pub invariant-loop-note : goal.invariant-loop-note
invariant-loop-note l = l.notes ≡ map (unless_for l.section) (take l.note-index l.initial.notes) ++ drop l.note-index l.initial.notes
