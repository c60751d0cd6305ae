-- What the search gives is exactly the rings.
-- Assumes nothing.
use Rattle.std.proofs.Common.{◌≡◌, map, vec_items}
use Rattle.std.proofs.lemmas.Result.{IfOk-weaker}
use Rattle.ring_search.specs.Search.{wait_of, own_of, rings_below, model}
use Rattle.ring_search.specs.Exactly.{Exactly}
use Rattle.ring_search.proofs.Exact.{exactly_the_rings}
use Rattle.ring_search.proofs.rings.Goals as goal

pub returns : goal.returns
returns c =
    let t = c.args.table.now in
    IfOk-weaker c.search.result (λ v. map model (vec_items v) ≡ rings_below (wait_of t) (own_of t) 64)
    (λ v. Exactly (wait_of t) (own_of t) (map model (vec_items v))) (λ v q. rw q (exactly_the_rings t)) c.search.ensures
