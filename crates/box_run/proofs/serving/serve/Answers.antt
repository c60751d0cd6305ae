-- Where a line's memory fails the file isn't touched.
use Rattle.std.proofs.Common.{[], length, Err, Result, sym, ap, ◌∙◌, subst, arith}
use Rattle.std.proofs.lemmas.Result.{err_from_is_err_and}
use Rattle.journal.specs.declared.effects.Said.{Said}
use Rattle.journal.specs.declared.fault.Fault.{Fault}
use Rattle.journal.proofs.Storing.{unwritten}
use Rattle.boxes.specs.Model.{state_of}
use Rattle.box_run.specs.Lines.{lines_in}
use Rattle.box_run.specs.Serve.{Serves}
use Rattle.box_run.proofs.serving.serve.Goals as goal

pub returns-in_err-gather-clause-serves : goal.returns-in_err-gather-clause-serves
returns-in_err-gather-clause-serves g c =
    let holds = g.F.File.holds c.args.file.now in
    let r = err_from_is_err_and c.from_residual.result c.from_residual.ensures.1 in
    let P : Result Said Fault → Type 0 = Serves (lines_in c.args.text.now) (state_of c.args.state.now) (state_of c.gather.new.state) holds holds in
    subst P (sym (r.1 ∙ ap Err r.2)) (λ xs h. ([], unwritten holds xs [] (length xs) (omega arith) h))
