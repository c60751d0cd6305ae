use Rattle.std.proofs.Common.{not, eqb}
use Rattle.std.proofs.lemmas.List.Filters.{FiltersInPlace}
use Rattle.sections.proofs.queue.close_up.Given as goal

abbrev pub invariant-loop-i : goal.invariant-loop-i
invariant-loop-i l = FiltersInPlace (λ x. not (eqb x l.engine)) l.initial.queue l.queue l.left l.i
