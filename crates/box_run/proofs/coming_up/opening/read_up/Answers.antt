-- Records that the box couldn't have written are damage.
use Rattle.std.proofs.Common.{Err, Result, sym, ap, ◌∙◌, subst}
use Rattle.std.proofs.lemmas.Result.{err_from_is_err_and}
use Rattle.journal.specs.declared.opening.OpenFault.{OpenFault}
use Rattle.box_run.specs.declared.coming_up.Standing.{Standing}
use Rattle.box_run.specs.Opening.{ReadUp}
use Rattle.box_run.proofs.Upward.{not_standing}
use Rattle.box_run.proofs.coming_up.opening.read_up.Goals as goal

pub returns-in_err-state : goal.returns-in_err-state
returns-in_err-state g c = λ xs n h.
    let f = c.in_ok-records.ensures.found xs n h in
    let r = err_from_is_err_and c.from_residual-in_err-state.result c.from_residual-in_err-state.ensures.1 in
    let P : Result Standing OpenFault → Type 0 = ReadUp c.args.which.yard c.args.which.number xs in (
      f.0,
      subst P (sym (r.1 ∙ ap Err r.2))
          (not_standing c.args.which.yard c.args.which.number xs _ c.as_slice.result.now _ _ c.as_slice.ensures.value f.1.0 c.in_err-state.ensures),
    )
