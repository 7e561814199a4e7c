use Rattle.std.proofs.Common.{◌+◌, pos, ap, w64, SFits, rules}
use Rattle.words.specs.declared.counts.Shape.{Shape}
use Rattle.plant_table.specs.Tabled.{meaning_of}
use Rattle.first_tableau.proofs.Columns.{turned_is, gain_column, own_column, limit_column}
use Rattle.first_tableau.proofs.numbers.basis_number.Goals as goal

pub returns-then-column-eq0 : goal.returns-then-column-eq0
returns-then-column-eq0 c =
    let p = meaning_of c.args.table.now in
    let g = c.gain-gain.result in
    let fits_g : SFits w64 g = search rules in
    let fits : SFits w64 c.turned.result = search rules in
    turned_is g g c.turned.result _ fits_g fits_g fits c.turned.ensures (gain_column p c.args.row c.requires.row g c.gain-gain.ensures.number c.args.column c.if-column-eq0.true)

pub returns-then-column-row : goal.returns-then-column-row
returns-then-column-row c =
    let p = meaning_of c.args.table.now in
    let g = c.gain-gain.result in
    let r = c.turned-then-column-row.result in
    let fits_g : SFits w64 g = search rules in
    let fits_one : SFits w64 (pos 1) = search rules in
    let fits : SFits w64 r = search rules in
    turned_is (pos 1) g r _ fits_one fits_g fits c.turned-then-column-row.ensures (own_column p c.args.row c.requires.row g c.gain-gain.ensures.number c.args.column c.if-column-row.true)

pub returns-else-column-list : goal.returns-else-column-list
returns-else-column-list c =
    let p = meaning_of c.args.table.now in
    let g = c.gain-gain.result in
    let a = c.coefficient.result in
    let r = c.turned-else-column-list.result in
    let fits_g : SFits w64 g = search rules in
    let fits_a : SFits w64 a = search rules in
    let fits : SFits w64 r = search rules in
    turned_is a g r _ fits_a fits_g fits c.turned-else-column-list.ensures
    (limit_column p c.args.row c.requires.row g c.gain-gain.ensures.number c.args.column _ (ap (λ (s : Shape). 1 + s.commands) c.shape-list.ensures.counts) c.if-column-list.false c.requires.column a c.coefficient.ensures.number)
