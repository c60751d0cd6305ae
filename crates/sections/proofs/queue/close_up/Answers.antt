-- what passes the test is kept, in its order
use Rattle.std.proofs.Common.{not, ap, arith}
use Rattle.std.proofs.lemmas.List.{get_or_default}
use Rattle.std.proofs.lemmas.List.Filters.{FiltersInPlace-more_no, FiltersInPlace-more_set}
use Rattle.std.proofs.lemmas.Bool.{eq-eqb, ne_eqb}
use Rattle.sections.proofs.queue.close_up.Goals as goal
use Rattle.sections.proofs.queue.close_up.Goals.{then-x-engine, else-x-engine}

pub loop-i-preserved : goal.loop-i-preserved
loop-i-preserved c =
    elim c.if-x-engine.branch [
      | then-x-engine w ↦ rw (w.queue-is, w.left-is) (FiltersInPlace-more_set c.loop-i.invariant (omega arith) (ap not (ne_eqb _ _ w.if-x-engine.true)) (get_or_default c.loop-i.queue c.loop-i.i 0 _ (omega arith)))
      | else-x-engine w ↦ rw (w.queue-is, w.left-is) (FiltersInPlace-more_no c.loop-i.invariant (omega arith) (ap not (eq-eqb _ _ w.if-x-engine.false)) (get_or_default c.loop-i.queue c.loop-i.i 0 _ (omega arith)))
    ]
