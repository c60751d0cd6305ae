use Rattle.std.proofs.Common.{◌≡◌, ◌%◌, length, sym, ap, ◌∙◌, arith, rules}
use Rattle.lines.specs.Written.{bytes_of, held}
use Rattle.lines.proofs.Pairs.{all_read, in_pairs, none_high, none_long, none_low, none_odd}
use Rattle.lines.proofs.line.reading.message.Goals.{then-pairs-gt21-via-then-pairs-gt21, then-pairs-gt21-via-else-pairs-gt21+then-not-is_empty}
use Rattle.lines.proofs.line.reading.message.Goals as goal

pub returns-then-pairs-gt21 : goal.returns-then-pairs-gt21
returns-then-pairs-gt21 c =
    elim c.then-pairs-gt21.branch [
      | then-pairs-gt21-via-then-pairs-gt21 w ↦ sym (none_long c.args.text.now (omega (arith, c.as_chunks.ensures.front_len, w.if-pairs-gt21)))
      | then-pairs-gt21-via-else-pairs-gt21+then-not-is_empty w ↦
          let more : length c.args.text.now % 2 ≡ 1 = search rules in sym (none_odd c.args.text.now more)
    ]

pub returns-in_err-high : goal.returns-in_err-high
returns-in_err-high c =
    let v = c.loop-high.invariant in
    ap held c.from_residual.ensures
    ∙ (none_high (bytes_of c.loop-high.out) c.as_chunks.result.0.now _ c.loop-high.high-index _ c.loop-high-test.true v.0 c.in_err-high.ensures.value
    ∙ in_pairs c.args.text.now c.as_chunks.result.0.now c.as_chunks.ensures.front v.2 v.3)

pub returns-in_err-low : goal.returns-in_err-low
returns-in_err-low c =
    let v = c.loop-high.invariant in
    ap held c.from_residual-in_err-low.ensures
    ∙ (none_low (bytes_of c.loop-high.out) c.as_chunks.result.0.now _ c.loop-high.high-index _ c.loop-high-test.true v.0 c.in_err-low.ensures.value
    ∙ in_pairs c.args.text.now c.as_chunks.result.0.now c.as_chunks.ensures.front v.2 v.3)

pub returns : goal.returns
returns c =
    let v = c.loop-high.invariant in
    all_read (bytes_of c.loop-high.out) c.as_chunks.result.0.now _ c.loop-high.high-index c.loop-high-test.false v.0
    ∙ in_pairs c.args.text.now c.as_chunks.result.0.now c.as_chunks.ensures.front v.2 v.3
