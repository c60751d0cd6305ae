-- A turn of one box of many. Assumes nothing.
use Rattle.std.specs.Prelude.{◌≡◌, List, Ok, Result}
use Rattle.std.specs.Borrow.{MutBor}
use Rattle.std.specs.Fn.{FnOnceReturnsAtMut, Once}
use Rattle.messages.specs.declared.yard.BoxNumber.{BoxNumber}
use Rattle.journal.specs.declared.effects.Said.{Said}
use Rattle.journal.specs.declared.opening.OpenFault.{OpenFault}
use Rattle.journal.specs.declared.output.Output.{Output}
use Rattle.journal.specs.Effect.{said_of}
use Rattle.world.specs.declared.station.Station as code
use Rattle.world.specs.Station.{Station, station_of}
use Rattle.world.specs.World.{Answer, Either, World, is_box, said, station_at, turned_away}

-- a function that is called with a `&mut` to a box with its file, and answers what may be said
abbrev pub Turn : Type 0 → Type 1
Turn F = Once F (MutBor code.Station × Unit {0}) (Result Said OpenFault × (MutBor code.Station × Unit {0}))

-- called at a station like this, it may make that of it and of what is said
pub record Turned {F : Type 0} (g : Turn F) (turn : F) (s : Station) (p : Station × List Output) : Type 0 where
  pub before : code.Station
  pub after : code.Station
  pub told : Said
  pub was : station_of before ≡ s
  pub met : FnOnceReturnsAtMut g turn before (Ok told) after
  pub gives : p ≡ (station_of after, said_of told)

-- one box had a turn, and what it said is sent from there; where there is no such box, nothing changed
pub record TurnsAt (w : World) (n : BoxNumber) (turns : Station → Station × List Output → Type 0) (r : World × Answer) : Type 0 where
  pub made : Either (is_box w n) ((p : Station × List Output) × turns (station_at w n) p × (r ≡ said w n p)) (r ≡ turned_away w)
