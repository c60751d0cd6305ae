-- Each turn tells one home more.
use Rattle.std.proofs.Common.{rules, refl}
use Rattle.messages.specs.declared.yard.BoxNumber.{BoxNumber}
use Rattle.boxes.specs.Log.{each}
use Rattle.boxes.specs.Model.{state_of}
use Rattle.boxes.specs.Keeping.{change_to}
use Rattle.boxes.proofs.Each.{numbered, turn_over}
use Rattle.boxes.proofs.signal_box.SignalBox.send_changes.Goals as goal

pub loop-to-init : goal.loop-to-init
unfolding each
loop-to-init c = refl

pub loop-to-preserved : goal.loop-to-preserved
loop-to-preserved c =
    let change = c.args.change in
    let items = c.map-to-items.ensures in
    let all = numbered (λ n. record { 0 = n }) _ _ _ c.into_iter-to-iterator.ensures.into_iter_gives items.source items.closure (λ n e q k. search rules) in
    turn_over _ (λ (to : BoxNumber). change_to (state_of c.args.self.now) change.section change.holder change.change to.0) _ all c.loop-to.yielded _ c.loop-to.yielded_by _ _ c.in-Some.to c.in-Some.is c.next.ensures.steps
    _ _ _ c.loop-to.invariant c.in_ok-send_change.ensures
