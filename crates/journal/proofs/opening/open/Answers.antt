-- What was read back says what the file has; the cut leaves the whole records, and a fault at least those that were synced.
use Rattle.std.proofs.Common.{Err, Result, Vec, Global, sym, ap, ◌∙◌, subst}
use Rattle.std.proofs.lemmas.Result.{err_from_is_err_and}
use Rattle.messages.specs.declared.message.Record.{Record}
use Rattle.messages.specs.declared.records.Replay.{Replay}
use Rattle.journal.specs.declared.opening.OpenFault.{OpenFault}
use Rattle.journal.specs.Opening.{Found, Leaves}
use Rattle.journal.proofs.Stopping.{not_read, trimmed, whole_left}
use Rattle.journal.proofs.opening.open.Goals as goal

pub returns-in_default-clause-leaves : goal.returns-in_default-clause-leaves
returns-in_default-clause-leaves g c = λ xs n h.
    let after = g.F.File.holds c.read_back-answer.new.file in
    let P : Result Replay OpenFault → Type 0 = Found c.args.yard xs in
    let f = c.read_back-answer.ensures.found xs n h in
    not_read c.args.yard xs n after _ (subst P c.unwrap_err.ensures f.1) f.0

pub returns-in_err-cut_back-clause-leaves : goal.returns-in_err-cut_back-clause-leaves
returns-in_err-cut_back-clause-leaves g c = λ xs n h.
    let after = g.F.File.holds c.cut_back.new.file in
    let f = c.in-Ok.ensures.found xs n h in
    let w = whole_left c.args.yard xs _ _ _ f.1.0 f.1.1 in
    let r = err_from_is_err_and c.from_residual.result c.from_residual.ensures.1 in
    let P : Result (Vec Record Global) OpenFault → Type 0 = Leaves c.args.yard xs n after in
    subst P (sym (r.1 ∙ ap Err r.2)) (trimmed c.args.yard xs n _ _ _ after f.1.0 f.1.1 (c.in_err-cut_back.ensures.held xs n f.0 w.1))
