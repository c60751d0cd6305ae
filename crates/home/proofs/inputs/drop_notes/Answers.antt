-- One more is dropped or kept.
use Rattle.std.proofs.Common.{get_or, set, ap, ◌∙◌, arith, None}
use Rattle.std.proofs.lemmas.List.Edits.{map_over_more}
use Rattle.std.proofs.lemmas.List.{get_or_default}
use Rattle.home.specs.Noted.{Noted}
use Rattle.home.specs.Inputs.{unless_for}
use Rattle.home.proofs.inputs.drop_notes.Goals as goal

pub loop-note-preserved : goal.loop-note-preserved
loop-note-preserved c =
    ap (λ (n : Noted). set c.loop-note.notes c.loop-note.note-index n) c.unless_for.ensures ∙
    map_over_more (unless_for c.args.section) c.args.notes.now c.loop-note.notes c.loop-note.note-index (get_or c.loop-note.notes c.loop-note.note-index None) (omega arith) c.loop-note.invariant (get_or_default c.loop-note.notes c.loop-note.note-index None (get_or c.loop-note.notes c.loop-note.note-index None) (omega arith))
