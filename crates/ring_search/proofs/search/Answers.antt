-- One engine more: the ring of which it is the lowest, if there is one, comes last.
-- Assumes nothing.
use Rattle.std.proofs.Common.{◌≡◌, List, Ok, map, vec_items, sym, ap, ◌∙◌}
use Rattle.std.specs.declared.alloc.AllocError.{AllocError}
use Rattle.std.specs.Option.{option_map}
use Rattle.std.proofs.lemmas.Iterator.Adapters.{YieldsList-from_once, fact_from_extend}
use Rattle.ring_search.specs.declared.Ring.{Ring}
use Rattle.ring_search.specs.Search.{wait_of, own_of, model, more}
use Rattle.ring_search.proofs.Chase.{added, rings_step, rings_none}
use Rattle.ring_search.proofs.search.Goals as goal

pub loop-e-init : goal.loop-e-init
loop-e-init c =
    ap (map model) c.new-found.ensures.items ∙ sym (rings_none (wait_of c.args.table.now) (own_of c.args.table.now))

pub loop-e-preserved : goal.loop-e-preserved
loop-e-preserved c =
    let found : List Ring = vec_items c.loop-e.found in
    let one : map model (vec_items c.extend.new.self) ≡ more (map model found) (option_map model c.in_ok-ring_at.field-0) =
    fact_from_extend {E = AllocError} (λ x. x) (Ok c.in_ok-extend.field-0) c.in_ok-extend.ensures.ran (λ it b. YieldsList-from_once c.in_ok-ring_at.field-0 b.0)
    (λ xs e h. ap (map model) h.0 ∙ added found xs c.in_ok-ring_at.field-0 e)
    in
    rings_step (wait_of c.args.table.now) (own_of c.args.table.now) c.loop-e.e one c.loop-e.invariant c.in_ok-ring_at.ensures
