-- Who has a section. Assumes nothing.
use Rattle.std.specs.Prelude.{Option}
use Rattle.messages.specs.declared.yard.Engine.{Engine}

-- an engine, or nobody
abbrev pub Holder : Type 0
Holder = Option Engine
