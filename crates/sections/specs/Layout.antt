-- How a section lies in memory.
use Rattle.std.specs.Prelude.{List, map}
use Rattle.sections.specs.declared.row.Row.{Row}
use Rattle.sections.specs.Table.{Section, Table}
use Rattle.sections.specs.Queues.{engines_of}

-- the section that a row stands for
abbrev pub section_of : Row → Section
section_of r = record { has = r.holder; queue = engines_of r.queue; change = r.change }

-- the table that rows stand for
abbrev pub table_of_rows : List Row → Table
table_of_rows rows = map section_of rows
