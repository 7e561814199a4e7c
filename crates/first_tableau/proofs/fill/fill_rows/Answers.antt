use Rattle.std.proofs.Common.{◌≡◌, ◌+◌, ◌-◌, ◌*◌, ◌≤◌, length, sym, ap, ◌∙◌, subst, arith}
use Rattle.words.specs.declared.counts.Shape.{Shape}
use Rattle.rows.proofs.Grid.{row_in, part_length}
use Rattle.tableau_words.specs.Layout.{row_width, row_count}
use Rattle.plant_table.specs.Places.{Holds}
use Rattle.plant_table.specs.Tabled.{meaning_of}
use Rattle.first_tableau.specs.First.{first_number}
use Rattle.first_tableau.proofs.Rows.{row_written}
use Rattle.first_tableau.proofs.fill.fill_rows.Goals as goal

pub loop-row-preserved : goal.loop-row-preserved
loop-row-preserved c =
    let p = meaning_of c.args.table.now in
    let s = c.shape-shape.result in
    let w = row_width s in
    let r = c.loop-row.row in
    let same = c.shape-shape.ensures.counts in
    let all : length c.args.rows.now ≡ row_count s * w = c.requires ∙ ap (λ (x : Shape). row_count x * row_width x) (sym same) in
    let in' : r * w + w ≤ length c.loop-row.rows = omega (arith, row_in r w (row_count s) c.loop-row-test.true) in
    let e : r * w + w - r * w ≡ w = omega arith in
    let long : length c.fill_row.new.numbers ≡ w = omega (arith, c.fill_row.auto.numbers, part_length r w c.loop-row.rows in') in
    let here : Holds w (first_number p r) c.fill_row.new.numbers = subst (λ (x : Shape). Holds (row_width x) (first_number p r) c.fill_row.new.numbers) (sym same) c.fill_row.ensures in
    rw e (row_written w r (first_number p) c.loop-row.rows c.fill_row.new.numbers in' long here c.loop-row.invariant)
