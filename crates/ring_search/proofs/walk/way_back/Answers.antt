-- Each turn is one engine further along the chase.
-- Assumes nothing.
use Rattle.std.proofs.Common.{◌-◌, Some, vec_items, sym, ap, ◌∙◌, arith}
use Rattle.ring_search.specs.Chase.{chase}
use Rattle.ring_search.proofs.Chase.{chase_out, chase_back, chase_next, chase_end}
use Rattle.ring_search.proofs.walk.way_back.Goals as goal

pub returns-in-None : goal.returns-in-None
returns-in-None g c =
    sym (chase_out g.W.Engine.PartialEq.eq (g.W.Waits.whom c.args.waits.now) c.args.first c.loop-left._left c.loop-left.at (vec_items c.loop-left.way) (omega arith) (sym c.whom.ensures ∙ c.in-None.is))
    ∙ c.loop-left.invariant

pub returns-in-Some : goal.returns-in-Some
returns-in-Some g c =
    ap Some c.in_ok-push.ensures.items
    ∙ sym (chase_back g.W.Engine.PartialEq.eq (g.W.Waits.whom c.args.waits.now) c.args.first c.loop-left._left c.loop-left.at c.in-Some.next (vec_items c.loop-left.way) (omega arith) (sym c.whom.ensures ∙ c.in-Some.is) (sym c.eq.ensures ∙ c.if-eq.true))
    ∙ c.loop-left.invariant

pub loop-left-preserved : goal.loop-left-preserved
loop-left-preserved g c =
    ap (chase g.W.Engine.PartialEq.eq (g.W.Waits.whom c.args.waits.now) c.args.first (c.loop-left._left - 1) c.in-Some.next) c.in_ok-push.ensures.items
    ∙ sym (chase_next g.W.Engine.PartialEq.eq (g.W.Waits.whom c.args.waits.now) c.args.first c.loop-left._left c.loop-left.at c.in-Some.next (vec_items c.loop-left.way) (omega arith) (sym c.whom.ensures ∙ c.in-Some.is) (sym c.eq.ensures ∙ c.if-eq.false))
    ∙ c.loop-left.invariant

pub returns : goal.returns
returns g c =
    sym (chase_end g.W.Engine.PartialEq.eq (g.W.Waits.whom c.args.waits.now) c.args.first c.loop-left._left c.loop-left.at (vec_items c.loop-left.way) (omega arith))
    ∙ c.loop-left.invariant
