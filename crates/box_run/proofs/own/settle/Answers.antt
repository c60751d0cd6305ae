-- One output more at each turn; past the last nothing is left to do.
use Rattle.std.proofs.Common.{◌+◌, ◌<◌, ◌≤◌, length, ap, ◌∙◌, subst, arith}
use Rattle.messages.specs.declared.yard.BoxNumber.{BoxNumber}
use Rattle.journal.specs.Effect.{outputs_of}
use Rattle.boxes.specs.Log.{Log, log_of}
use Rattle.boxes.specs.Model.{State, state_of}
use Rattle.box_run.specs.Own.{Settles, settled, next}
use Rattle.box_run.proofs.own.settle.Goals as goal

pub loop-at-preserved : goal.loop-at-preserved
loop-at-preserved c =
    let there : c.loop-at.at < length (outputs_of c.loop-at.effects) = omega (arith, c.said_so_far.ensures, c.loop-at-test.true) in
    λ q s.
    let P : State × Log → Type 0 = λ p. Settles c.number-own.result (c.loop-at.at + 1) p q in
    c.loop-at.invariant q (next there (subst P c.in_ok-handle_own.ensures s))

pub returns : goal.returns
returns c =
    let past : length (outputs_of c.loop-at.effects) ≤ c.loop-at.at = omega (arith, c.said_so_far.ensures, c.loop-at-test.false) in
    let P : BoxNumber → Type 0 = λ own.
    Settles own c.args.from (state_of c.args.state.now, log_of c.args.effects.now) (state_of c.loop-at.state, log_of c.loop-at.effects)
    in
    subst P (c.number-own.ensures ∙ ap (λ h. h.number) c.home.ensures) (c.loop-at.invariant _ (settled past))
