-- At each place the closure gave the place's own number.
-- Assumes nothing.
use Rattle.std.proofs.Common.{ℕ, rules}
use Rattle.std.proofs.lemmas.List.FromFn.{fill_by_all}
use Rattle.signs.proofs.table.numbers.Goals as goal

pub returns : goal.returns
returns c =
    let made = c.from_fn.ensures.items in
    fill_by_all (λ (k : ℕ). k) c.from_fn.result 64 0 made.long (λ k h. let call = made.at k 0 h in let said = call.2 in search rules)
