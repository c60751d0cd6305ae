-- Each turn replays one record more; at a wrong one its index is the answer.
use Rattle.std.proofs.Common.{◌≡◌, Err, rules, sym, ap, ◌∙◌}
use Rattle.boxes.specs.Model.{state_of}
use Rattle.boxes.specs.Opening.{open_from, opened}
use Rattle.boxes.proofs.Replays.{goes_on, none_left, stops}
use Rattle.boxes.proofs.signal_box.SignalBox.open.Goals as goal

pub loop-index-preserved : goal.loop-index-preserved
loop-index-preserved c =
    sym (goes_on c.args.records.now c.loop-index.index _ (state_of c.loop-index.opened) (state_of c.replay.new.self) c.replay.result _ _ c.loop-index-test.true c.replay.ensures (sym c.ok_or.ensures.value ∙ c.in_ok-ok_or.was))
    ∙ c.loop-index.invariant

pub returns : goal.returns
returns c = sym (none_left c.args.records.now c.loop-index.index (state_of c.loop-index.opened) c.loop-index-test.false) ∙ (c.loop-index.invariant ∙ ap (open_from 0 c.args.records.now) c.new-opened.ensures)

pub returns-in_err-ok_or : goal.returns-in_err-ok_or
returns-in_err-ok_or c =
    let given : c.from_residual.result ≡ Err c.in_err-ok_or.field-0.0 = search rules in
    ap opened given
    ∙ (sym (stops c.args.records.now c.loop-index.index _ (state_of c.loop-index.opened) (state_of c.replay.new.self) c.replay.result _ c.loop-index-test.true c.replay.ensures (sym c.ok_or.ensures.value ∙ c.in_err-ok_or.was))
    ∙ (c.loop-index.invariant ∙ ap (open_from 0 c.args.records.now) c.new-opened.ensures))
