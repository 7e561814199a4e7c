use Rattle.plant_table.specs.Places.{Holds}
use Rattle.plant_table.specs.Tabled.{meaning_of}
use Rattle.first_tableau.specs.First.{first_number}
use Rattle.first_tableau.proofs.fill.fill_row.Given as goal

-- The numbers so far are written.
abbrev pub invariant-loop-column : goal.invariant-loop-column
invariant-loop-column l = Holds l.column (first_number (meaning_of l.table) l.row) l.numbers
