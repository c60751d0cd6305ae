-- in the rows behind this one there is as much to find as in all
use Rattle.std.proofs.Common.{◌≡◌, drop}
use Rattle.sections.specs.Layout.{table_of_rows}
use Rattle.sections.specs.Table.{waits}
use Rattle.sections.proofs.Sections.waits.Given as goal

abbrev pub invariant-loop-place : goal.invariant-loop-place
invariant-loop-place l = waits l.engine (table_of_rows (drop l.place l.self.rows)) ≡ waits l.engine (table_of_rows l.self.rows)
