-- By the lemma of that name.
use Rattle.box_laws.proofs.Runs.{turned_away_by_a_box}
use Rattle.box_laws.proofs.turned_away_by_a_box.Goals as goal

pub returns : goal.returns
returns c = turned_away_by_a_box
