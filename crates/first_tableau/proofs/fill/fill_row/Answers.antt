use Rattle.std.proofs.Common.{◌∙◌, arith, w64, SFits, rules}
use Rattle.std.proofs.lemmas.Int.{to_z-of_z}
use Rattle.rows.proofs.Progress.{write}
use Rattle.plant_table.specs.Tabled.{meaning_of}
use Rattle.first_tableau.specs.First.{first_number}
use Rattle.first_tableau.proofs.fill.fill_row.Goals as goal

pub loop-column-preserved : goal.loop-column-preserved
loop-column-preserved c =
    let fits : SFits w64 c.number.result = search rules in
    write (first_number (meaning_of c.args.table.now) c.args.row) c.loop-column.numbers c.loop-column.column _ (omega arith) c.loop-column.invariant (to_z-of_z w64 c.number.result fits ∙ c.number.ensures)
