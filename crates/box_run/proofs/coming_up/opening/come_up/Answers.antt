-- The file is cut to the whole records, and the reminders leave it as it is.
use Rattle.std.proofs.Common.{ℕ, List, length, Err, Result, sym, ap, ◌∙◌, subst}
use Rattle.std.proofs.lemmas.Result.{err_from_is_err_and}
use Rattle.journal.specs.declared.opening.OpenFault.{OpenFault}
use Rattle.journal.proofs.Stopping.{trimmed, whole_left}
use Rattle.box_run.specs.declared.coming_up.CameUp.{CameUp}
use Rattle.box_run.specs.Opening.{ComesUp}
use Rattle.box_run.proofs.Upward.{not_up, whole_there}
use Rattle.box_run.proofs.coming_up.opening.come_up.Goals as goal

pub returns-in_err-state-clause-up : goal.returns-in_err-state-clause-up
returns-in_err-state-clause-up g c = λ xs n h.
    let after = g.F.File.holds c.read_up.new.file in
    let f = c.in_err-state.ensures xs n h in
    let r = err_from_is_err_and c.from_residual.result c.from_residual.ensures.1 in
    let P : Result CameUp OpenFault → Type 0 = ComesUp c.args.which.yard c.args.which.number xs n after in
    subst P (sym (r.1 ∙ ap Err r.2)) (not_up c.args.which.yard c.args.which.number xs n after _ f.0 f.1)

pub returns-in_err-cut_back-clause-up : goal.returns-in_err-cut_back-clause-up
returns-in_err-cut_back-clause-up g c = λ xs n h.
    let after = g.F.File.holds c.cut_back.new.file in
    let f = c.in_ok-state.ensures xs n h in
    let w = whole_left c.args.which.yard xs _ _ _ f.1.2 f.1.4 in
    let r = err_from_is_err_and c.from_residual-in_err-cut_back.result c.from_residual-in_err-cut_back.ensures.1 in
    let P : Result CameUp OpenFault → Type 0 = ComesUp c.args.which.yard c.args.which.number xs n after in
    subst P (sym (r.1 ∙ ap Err r.2)) (trimmed c.args.which.yard xs n _ _ _ after f.1.2 f.1.4 (c.in_err-cut_back.ensures.held xs n f.0 w.1))

pub returns-in_err-said-clause-up : goal.returns-in_err-said-clause-up
returns-in_err-said-clause-up g c = λ xs n h.
    let after = g.F.File.holds c.say_reminders.new.file in
    let f = c.in_ok-state.ensures xs n h in
    let w = whole_left c.args.which.yard xs _ _ _ f.1.2 f.1.4 in
    let r = err_from_is_err_and c.from_residual-in_err-said.result c.from_residual-in_err-said.ensures.1 in
    let P : Result CameUp OpenFault → Type 0 = ComesUp c.args.which.yard c.args.which.number xs n after in
    let Q : List ℕ → Type 0 = λ l. g.F.File.holds c.cut_back.new.file l (length l) in
    subst P (sym (r.1 ∙ ap Err r.2))
    (whole_there c.args.which.yard xs n _ _ _ after f.1.2 f.1.4 (c.in_err-said.ensures.kept _ (subst Q w.0 (c.in_ok-cut_back.ensures.held xs n f.0 w.1))))
