-- Each turn is one engine more.
use Rattle.std.proofs.Common.{rules, refl}
use Rattle.boxes.specs.Log.{each}
use Rattle.boxes.specs.Handle.{reminder_for}
use Rattle.boxes.proofs.Each.{numbered, turn_over}
use Rattle.boxes.proofs.signal_box.SignalBox.remind.Goals as goal

pub loop-engine-init : goal.loop-engine-init
unfolding each
loop-engine-init c = refl

pub loop-engine-preserved : goal.loop-engine-preserved
loop-engine-preserved c =
    let items = c.map-engine-items.ensures in
    let all = numbered (λ n. record { 0 = n }) _ _ _ c.into_iter-engine-iterator.ensures.into_iter_gives items.source items.closure (λ n e q k. search rules) in
    turn_over _ (reminder_for c.args.self.now.home) _ all c.loop-engine.yielded _ c.loop-engine.yielded_by _ _ c.in-Some.engine c.in-Some.is c.next.ensures.steps
    _ _ _ c.loop-engine.invariant c.in_ok-remind.ensures
