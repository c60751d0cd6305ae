use Rattle.std.proofs.Common.{◌≡◌, ℕ, false, eqb, List, sym, ap, ◌∙◌}
use lib.Pointwise.{pointwise}
use Rattle.lines.specs.Lines.{is_free, is_second, is_take}
use Rattle.lines.proofs.Words.{not_begun, not_second}
use Rattle.lines.proofs.line.reading.whole.Goals as goal

pub returns : goal.returns
returns c =
    let t : is_take c.args.line.now ≡ false = not_begun c.args.line.now 116 97 107 101 32 c.in_default.ensures.cases in
    let f : is_free c.args.line.now ≡ false = not_begun c.args.line.now 102 114 101 101 32 c.in_default-strip_prefix.ensures.cases in
    let s : is_second c.args.line.now ≡ false = not_second c.args.line.now
    (sym (ap (λ (l : List ℕ). pointwise eqb c.args.line.now l) c.as_slice.ensures) ∙ (sym c.eq.ensures ∙ c.if-eq.false)) in
    rw (t, f, s) c.sent.ensures
