use Rattle.std.proofs.Common.{◌≡◌, ◌+◌, true, drop, pos, ◌≤ℤ◌, ◌<ℤ◌, arith, w64, SFits, to_z, of_z, rules}
use lib.Signed.{lt_z}
use Rattle.std.proofs.lemmas.Int.{ints, to_z-of_z}
use Rattle.rows.specs.Cells.{cell}
use Rattle.tableau_words.specs.Layout.{row_width, first_row, number_at}
use Rattle.tableau_words.proofs.LeastRatio.{passed, opened, taken, kept, answered}
use Rattle.tableau_words.proofs.view.Tableau.leaving.Goals as goal
use Rattle.tableau_words.proofs.view.Tableau.leaving.Goals.{then-number-gt0+in-Some, then-number-gt0+in_default-2, then-number-gt0+in_default, else-number-gt0}

pub loop-row-preserved : goal.loop-row-preserved
loop-row-preserved c =
    let s = c.args.self.now.counts.shape in
    let ws = c.args.self.now.words.now in
    let w = row_width s in
    let n = first_row s in
    let i = 1 + c.shape-commands.result.commands + c.args.limit in
    let xs = drop n ws in
    let row = c.loop-row.row in
    let number : c.number.result ≡ number_at s ws row i = c.number.ensures.value in
    let fits : SFits w64 c.number.result = search rules in
    let same = to_z-of_z w64 c.number.result fits in
    let up : lt_z (pos 0) (to_z w64 (of_z w64 c.number.result)) ≡ true → pos 0 <ℤ cell w xs row i = λ h. omega (arith, ints, same, number) in
    elim c.if-number-gt0.branch [
      | then-number-gt0+in-Some v ↦ rw v.leaves-is (kept w n i xs row v.in-Some.least (rw v.in-Some.is at c.loop-row.invariant) v.if-not-comes_before.ensures)
      | then-number-gt0+in_default-2 v ↦ rw v.leaves-is (taken w n i xs row v.in-Some.least (up v.if-number-gt0.true) (rw v.in-Some.is at c.loop-row.invariant) v.if-not-comes_before.ensures)
      | then-number-gt0+in_default v ↦ rw v.leaves-is (opened w n i xs row (up v.if-number-gt0.true) (rw v.in_default.is at c.loop-row.invariant))
      | else-number-gt0 v ↦
          let down : cell w xs row i ≤ℤ pos 0 = omega (arith, ints, same, number, v.if-number-gt0.false) in
          rw v.leaves-is (passed w n i xs row c.loop-row.leaves down c.loop-row.invariant)
    ]

pub returns : goal.returns
returns c =
    let s = c.args.self.now.counts.shape in
    let e : c.loop-row.row ≡ c.shape-commands.result.commands = omega arith in
    answered s c.args.limit c.args.self.now.words.now c.loop-row.leaves c.requires (rw (e, c.shape-commands.ensures) at c.loop-row.invariant)
