-- One box more at each turn.
use Rattle.std.proofs.Common.{map, sym, ap, ◌∙◌}
use Rattle.world.specs.Station.{station_of}
use Rattle.world.proofs.Growing.{none_fresh, station_more}
use Rattle.world.proofs.world.World.new.Goals as goal

pub loop-number-preserved : goal.loop-number-preserved
loop-number-preserved c = station_more c.args.yard c.loop-number.number _ _ _ c.loop-number.invariant c.in_ok-push.ensures.items c.new.ensures

pub loop-number-init : goal.loop-number-init
loop-number-init c = ap (map station_of) c.new-stations.ensures.items ∙ sym (none_fresh c.args.yard)
