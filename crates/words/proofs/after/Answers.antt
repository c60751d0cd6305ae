-- the prefix is there, or is not
use Rattle.std.proofs.lemmas.Slice.Eq.{strip_prefix_is}
use Rattle.words.proofs.Words.{after_is}
use Rattle.words.proofs.after.Goals as goal
use Rattle.std.proofs.lemmas.Bool.Decides.{Decides-eqb}

pub returns : goal.returns
returns c =
    let text = c.args.text.now in
    let word = c.args.word.now in
    after_is word text c.strip_prefix.result (strip_prefix_is Decides-eqb text word c.strip_prefix.result c.strip_prefix.ensures.cases)
