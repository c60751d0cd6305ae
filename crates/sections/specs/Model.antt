-- The table that a box's sections stand for.
use Rattle.sections.specs.declared.Sections.{Sections}
use Rattle.sections.specs.Table.{Table}
use Rattle.sections.specs.Layout.{table_of_rows}

abbrev pub table_of : Sections → Table
table_of sections = table_of_rows sections.rows
