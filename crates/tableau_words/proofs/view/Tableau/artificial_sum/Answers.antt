use Rattle.std.proofs.Common.{◌≡◌, ◌+◌, ◌*◌, ◌≤◌, ◌+ℤ◌, nat_abs, refl, ap₂, add-one, arith, w64, SFits, rules}
use Rattle.std.proofs.lemmas.Int.{to_z-of_z}
use Rattle.exact.specs.Bounds.{width}
use Rattle.exact.specs.Vectors.{sum}
use Rattle.exact.proofs.Sizes.{abs_add, fits_64}
use Rattle.tableau_words.proofs.ArtificialSums.{summed}
use Rattle.tableau_words.proofs.view.Tableau.artificial_sum.Goals as goal

pub loop-row-init : goal.loop-row-init
unfolding sum
loop-row-init c = (refl, omega arith)

pub loop-row-preserved : goal.loop-row-preserved
unfolding sum
loop-row-preserved c =
    let h : SFits w64 c.artificial_number-sum.result = search rules in
    let e = c.loop-row.sum-is in
    let I = simp e at c.loop-row.invariant in
    let z = c.loop-row.sum +ℤ c.artificial_number-sum.result in
    let most : c.shape-row-end.result.commands ≤ 4 = rw c.shape-row-end.ensures c.args.self.now.counts.fit.1 in
    let small : nat_abs z ≤ (c.loop-row.row + 1) * width = omega (arith, abs_add c.loop-row.sum c.artificial_number-sum.result, c.artificial_number-sum.ensures.width, I.1) in
    let f : SFits w64 z = fits_64 z (omega (arith, small)) in
    simp (to_z-of_z, e, add-one) (ap₂ ◌+ℤ◌ I.0 c.artificial_number-sum.ensures.value, omega (arith, small))

pub returns : goal.returns
returns c =
    let e = c.loop-row.sum-is in
    let I = simp e at c.loop-row.invariant in
    let s = c.args.self.now.counts.shape in
    let n : c.loop-row.row ≡ s.commands = rw (← c.shape-row-end.ensures) (omega arith) in
    simp e (summed s c.args.column c.args.self.now.words.now c.loop-row.sum c.requires (rw n at I.0))
