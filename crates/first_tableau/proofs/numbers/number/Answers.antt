use Rattle.std.proofs.Common.{◌≡◌, ◌-◌, sym, ap, ◌∙◌, arith, w64, SFits, rules}
use Rattle.std.proofs.lemmas.Int.{to_z-of_z}
use Rattle.words.specs.declared.counts.Shape.{Shape}
use Rattle.tableau.specs.Plants.{commands}
use Rattle.plant_table.specs.Tabled.{meaning_of}
use Rattle.first_tableau.specs.First.{first_reading_row}
use Rattle.first_tableau.proofs.Columns.{in_readings}
use Rattle.first_tableau.proofs.numbers.number.Goals as goal

pub returns-else-row-commands : goal.returns-else-row-commands
returns-else-row-commands c =
    let p = meaning_of c.args.table.now in
    let r = c.reading_number.result in
    let fits : SFits w64 r = search rules in
    let same : c.shape-commands.result.commands ≡ commands p = ap (λ (s : Shape). s.commands) c.shape-commands.ensures.counts in
    to_z-of_z w64 r fits ∙ c.reading_number.ensures ∙ ap (λ m. first_reading_row p (c.args.row - m) c.args.column) same ∙ sym (in_readings p c.args.row c.args.column (omega arith))
