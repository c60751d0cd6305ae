-- The sum is the lowest, by the multiples of the divisor.
-- Assumes nothing.
use Rattle.std.proofs.Common.{rules}
use Rattle.signs.proofs.Lowest.{own_is_lowest}
use Rattle.signs.proofs.next_own.Goals as goal

pub returns-clause-lowest : goal.returns-clause-lowest
returns-clause-lowest c = own_is_lowest c.args.shown c.args.me c.args.engines (search rules)
