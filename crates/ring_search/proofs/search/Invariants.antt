-- The rings found so far are those whose lowest engine is below the counter.
-- Assumes nothing.
use Rattle.std.proofs.Common.{◌≡◌, map, vec_items}
use Rattle.ring_search.specs.Search.{wait_of, own_of, rings_below, model}
use Rattle.ring_search.proofs.search.Given as goal

abbrev pub invariant-loop-e : goal.invariant-loop-e
invariant-loop-e l = map model (vec_items l.found) ≡ rings_below (wait_of l.table) (own_of l.table) l.e
