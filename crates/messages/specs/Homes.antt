-- Which box is an engine's home. Assumes nothing.
use Rattle.std.specs.Prelude.{◌%◌}
use Rattle.messages.specs.declared.yard.BoxNumber.{BoxNumber}
use Rattle.messages.specs.declared.yard.Engine.{Engine}
use Rattle.messages.specs.declared.yard.Yard.{Yard}

-- the home of an engine: the box that its number leaves when divided by the number of boxes
abbrev pub home_of : Yard → Engine → BoxNumber
home_of y e = record { 0 = e.0 % y.boxes }
