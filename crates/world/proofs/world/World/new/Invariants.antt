-- After n turns the first n boxes are there.
use Rattle.std.proofs.Common.{◌≡◌, map, vec_items}
use Rattle.world.specs.Station.{station_of}
use Rattle.world.specs.World.{fresh_stations}
use Rattle.world.proofs.world.World.new.Given as goal

abbrev pub invariant-loop-number : goal.invariant-loop-number
invariant-loop-number l = map station_of (vec_items l.stations) ≡ fresh_stations l.yard l.number
