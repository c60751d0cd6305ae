-- One step more from a world that steps lead to.
use Rattle.std.proofs.Common.{◌≡◌, List, [], ◌∷◌, ◌++◌, sym, subst}
use Rattle.messages.specs.declared.yard.Yard.{Yard}
use Rattle.world.specs.declared.step.Step.{Step}
use Rattle.world.specs.World.{Answer, Makes, World, empty}
use Rattle.world.specs.Runs.{Reached, Run, Taken, nothing, then}

run_on : {w u v : World} {steps : List Taken} (s : Step) (a : Answer) → Run w steps u → Makes u s (v, a) → Run w (steps ++ record { step = s; answer = a } ∷ []) v
run_on s a nothing m = then m nothing
run_on s a (then k more) m = then k (run_on s a more m)

pub step_on : (u v : World) (s : Step) (a : Answer) → Reached u → Makes u s (v, a) → Reached v
step_on u v s a (y, steps, run) m = (y, steps ++ record { step = s; answer = a } ∷ [], run_on s a run m)

pub from_nothing : (w : World) (y : Yard) → w ≡ empty y → Reached w
from_nothing w y q = subst Reached (sym q) (y, [], nothing)
