-- Cites the theorem.
use Rattle.yard.proofs.Rounds.{old_words}
use Rattle.yard.proofs.old_words_do_no_harm.Goals as goal

pub returns : goal.returns
returns c = old_words
