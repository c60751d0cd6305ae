-- The box that had the turn is the one of that number.
use Rattle.std.proofs.Common.{map, vec_items, refl, arith}
use Rattle.std.proofs.lemmas.Result.{IfOk-weaker}
use Rattle.journal.specs.Effect.{said_of}
use Rattle.world.specs.World.{envelope_of}
use Rattle.world.proofs.OneBox.{turned}
use Rattle.world.proofs.world.World.turn_at.Goals as goal

pub returns : goal.returns
returns g c =
    let w = c.args.self.now in
    IfOk-weaker c.say.result _ _
    (λ out e. turned w.yard (map envelope_of (vec_items w.sent)) (vec_items w.stations) c.args.at _ c.from.result c.in-Some.station.now c.turn.new.arg2 (said_of c.in_ok-said.said) _
    c.from.ensures
    (omega (arith, c.in-Some.ensures.variant.0 refl, w.stations.ok.0))
    c.in-Some.ensures.value
    (record {
      before = c.in-Some.station.now;
      after = c.turn.new.arg2;
      told = c.in_ok-said.said;
      was = refl;
      met = record { shown = c.in-Some.station; shows = refl; left = _; met = c.in_ok-said.ensures; leaves = refl };
      gives = refl;
    })
    e)
    c.say.ensures
