-- The word in front of the first blank, and what stands behind it.
use Rattle.std.proofs.Common.{◌≡◌, Some, None, sym, ap, ◌∙◌}
use Rattle.messages.specs.Reading.{and_then}
use Rattle.words.specs.Words.{split_once}
use Rattle.rehearse.specs.Script.{named}
use Rattle.rehearse.proofs.Steps.{step_by_word}
use Rattle.rehearse.proofs.script.step.Goals as goal

pub returns-in_err-word : goal.returns-in_err-word
returns-in_err-word c =
    let line = c.args.line.now in
    let none : split_once 32 line ≡ None = sym c.in_err-word.ensures in
    c.from_residual.ensures ∙ sym (step_by_word line ∙ ap (λ parts. and_then parts (λ p. named p.0 p.1)) none)

pub returns : goal.returns
returns c =
    let line = c.args.line.now in
    let some : split_once 32 line ≡ Some (c.in_ok-word.word.now, c.in_ok-word.text.now) = sym c.in_ok-word.ensures in
    c.named.ensures ∙ sym (step_by_word line ∙ ap (λ parts. and_then parts (λ p. named p.0 p.1)) some)
