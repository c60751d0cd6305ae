-- From here on the chase gives what it gives from the first engine.
-- Assumes nothing.
use Rattle.std.proofs.Common.{◌≡◌, [], vec_items}
use Rattle.ring_search.specs.Chase.{chase}
use Rattle.ring_search.proofs.walk.way_back.Given as goal

abbrev pub invariant-loop-left : goal.invariant-loop-left
invariant-loop-left g l =
    chase g.W.Engine.PartialEq.eq (g.W.Waits.whom l.waits) l.first l._left l.at (vec_items l.way)
    ≡ chase g.W.Engine.PartialEq.eq (g.W.Waits.whom l.waits) l.first 64 l.first []
