use Rattle.std.proofs.Common.{◌+◌, sym, ap, ◌∙◌, arith, w64, SFits, rules}
use Rattle.std.proofs.lemmas.Int.{to_z-of_z}
use Rattle.words.specs.declared.counts.Shape.{Shape}
use Rattle.plant_table.specs.Tabled.{meaning_of}
use Rattle.first_tableau.proofs.Columns.{no_number, rate_column}
use Rattle.first_tableau.proofs.numbers.reading_number.Goals as goal

pub returns-then-column-list : goal.returns-then-column-list
returns-then-column-list c =
    let p = meaning_of c.args.table.now in
    sym (no_number p c.args.k c.args.column (omega (arith, ap (λ (s : Shape). s.commands) c.shape-list.ensures.counts)))

pub returns-else-column-list : goal.returns-else-column-list
returns-else-column-list c =
    let p = meaning_of c.args.table.now in
    let r = c.rate.result in
    let fits : SFits w64 r = search rules in
    to_z-of_z w64 r fits ∙ c.rate.ensures.number ∙ sym (rate_column p c.args.k c.args.column _ (ap (λ (s : Shape). 1 + s.commands) c.shape-list.ensures.counts) c.if-column-list.false)
