use Rattle.plant_table.specs.Places.{RowsHold}
use Rattle.plant_table.specs.Tabled.{meaning_of}
use Rattle.first_tableau.specs.First.{first_number}
use Rattle.first_tableau.proofs.fill.fill_rows.Given as goal

-- The rows so far are written.
abbrev pub invariant-loop-row : goal.invariant-loop-row
invariant-loop-row l = RowsHold l.width l.row l.width (first_number (meaning_of l.table)) l.rows
