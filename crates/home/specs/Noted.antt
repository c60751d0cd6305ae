-- What is noted of an engine of the yard: that it waits for a section that one of ours holds, or nothing.
use Rattle.std.specs.Prelude.{Option}
use Rattle.home.specs.declared.home.Note.{Note}

abbrev pub Noted : Type 0
Noted = Option Note
