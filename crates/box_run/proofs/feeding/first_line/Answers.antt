-- Up to the newline; or all, where there is none.
use Rattle.std.proofs.Common.{length, sym, ◌∙◌, arith}
use Rattle.std.proofs.lemmas.Bool.{eqb-false}
use Rattle.box_run.proofs.Split.{ended_line, last_line, less_follows}
use Rattle.box_run.proofs.feeding.first_line.Goals as goal

pub returns-in-Some-clause-line : goal.returns-in-Some-clause-line
returns-in-Some-clause-line c = ended_line c.args.text.now _ _ c.in-Some.ensures

pub returns-in-Some-clause-less : goal.returns-in-Some-clause-less
returns-in-Some-clause-less c = less_follows c.args.text.now _ _ c.in-Some.ensures

pub returns-in-None-2-clause-line : goal.returns-in-None-2-clause-line
returns-in-None-2-clause-line c =
    let some = eqb-false (length c.args.text.now) 0 (sym c.is_empty.ensures ∙ c.if-is_empty.false) in
    last_line c.args.text.now (omega (arith, some)) c.in-None-2.ensures
