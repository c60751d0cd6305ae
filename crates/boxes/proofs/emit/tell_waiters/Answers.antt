-- Each turn tells one engine more.
use Rattle.std.proofs.Common.{rules, refl}
use Rattle.boxes.specs.Log.{each}
use Rattle.boxes.specs.Emit.{tell_of}
use Rattle.boxes.proofs.Each.{numbered, turn_over}
use Rattle.boxes.proofs.emit.tell_waiters.Goals as goal

pub loop-to-init : goal.loop-to-init
unfolding each
loop-to-init c = refl

pub loop-to-preserved : goal.loop-to-preserved
loop-to-preserved c =
    let items = c.map-to-items.ensures in
    let all = numbered (λ n. record { 0 = n }) _ _ _ c.into_iter-to-iterator.ensures.into_iter_gives items.source items.closure (λ n e q k. search rules) in
    turn_over _ (tell_of c.args.home.now c.args.by c.args.sign) _ all c.loop-to.yielded _ c.loop-to.yielded_by _ _ c.in-Some.to c.in-Some.is c.next.ensures.steps
    _ _ _ c.loop-to.invariant c.in_ok-tell.ensures
