-- The turn's fault is what it answered; what it had gathered is whatever stood in its effects.
use Rattle.std.proofs.Common.{refl}
use Rattle.journal.proofs.effects.Effects.gather.Goals as goal

pub returns-in-Err : goal.returns-in-Err
returns-in-Err g c = (
  c.turn.new.arg3,
  record {
    state = _;
    shows = refl;
    begun = _;
    no_records = c.new-effects.ensures.records;
    no_outputs = c.new-effects.ensures.outputs;
    left = _;
    met = c.in-Err.ensures;
    leaves_state = refl;
    leaves_effects = refl;
  },
)
