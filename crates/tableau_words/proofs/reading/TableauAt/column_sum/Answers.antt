use Rattle.std.proofs.Common.{◌≡◌, ◌+◌, ◌*◌, ◌≤◌, ◌+ℤ◌, ◌*ℤ◌, nat_abs, sym, ◌∙◌, ap₂, add-one, arith, w64, SFits, rules}
use Rattle.std.proofs.lemmas.Int.{to_z-of_z}
use Rattle.exact.specs.Bounds.{width}
use Rattle.exact.specs.Vectors.{entries}
use Rattle.exact.proofs.Sizes.{product_small, abs_add, fits_64}
use Rattle.tableau_words.specs.Layout.{number_at}
use Rattle.tableau_words.proofs.ReadingSums.{first_term, next_term}
use Rattle.tableau_words.proofs.reading.TableauAt.column_sum.Goals as goal

pub loop-k-init : goal.loop-k-init
loop-k-init c =
    let s = c.args.self.now.reading.counts.shape in
    let fits : SFits w64 c.number-sum.result = search rules in
    let at = rw (c.tableau-tableau.ensures.counts, c.tableau-tableau.ensures.words, c.shape-constants.ensures) at c.number-sum.ensures.value in
    simp to_z-of_z (at ∙ first_term s c.args.self.now.reading.numbers.now c.args.self.now.words.now c.args.column, omega (arith, c.number-sum.ensures.width))

-- One term more: its value, and the size of the new sum.
added : (c : goal.After-product-sum) → (c.product-sum.result ≡ entries c.args.self.now.reading.numbers.now c.loop-k.k *ℤ number_at c.args.self.now.reading.counts.shape c.args.self.now.words.now (c.args.self.now.reading.counts.shape.commands + (1 + c.loop-k.k)) c.args.column) × (nat_abs (c.loop-k.sum +ℤ c.product-sum.result) ≤ (c.loop-k.k + 1 + 1) * (width * width))
added c =
    let at = c.args.self.now in
    let x = entries at.reading.numbers.now c.loop-k.k in
    let fits_x : SFits w64 x = search rules in
    let fits_y : SFits w64 c.number.result = search rules in
    let y = rw (c.tableau-tableau.ensures.counts, c.tableau-tableau.ensures.words, c.shape-constants.ensures) at c.number.ensures.value in
    let e : c.product-sum.result ≡ x *ℤ c.number.result = simp to_z-of_z at c.product-sum.ensures in
    let p : nat_abs c.product-sum.result ≤ width * width = rw e (product_small width width x c.number.result (at.reading.small c.loop-k.k) c.number.ensures.width) in
    let I = simp c.loop-k.sum-is at c.loop-k.invariant in
    (rw y at e, omega (arith, abs_add c.loop-k.sum c.product-sum.result, I.1))

pub overflow_add-sum : goal.overflow_add-sum
overflow_add-sum c =
    let h : SFits w64 c.product-sum.result = search rules in
    let e = c.loop-k.sum-is in
    simp (to_z-of_z, e) (fits_64 (c.loop-k.sum +ℤ c.product-sum.result) (omega (arith, (added c).1)))

pub loop-k-preserved : goal.loop-k-preserved
loop-k-preserved c =
    let at = c.args.self.now in
    let h : SFits w64 c.product-sum.result = search rules in
    let e = c.loop-k.sum-is in
    let I = simp e at c.loop-k.invariant in
    let f : SFits w64 (c.loop-k.sum +ℤ c.product-sum.result) = fits_64 (c.loop-k.sum +ℤ c.product-sum.result) (omega (arith, (added c).1)) in
    let m = next_term at.reading.counts.shape at.reading.numbers.now at.words.now c.args.column c.loop-k.k in
    simp (to_z-of_z, e) (ap₂ ◌+ℤ◌ I.0 (added c).0 ∙ sym m, omega (arith, (added c).1))

pub returns-clause-value : goal.returns-clause-value
returns-clause-value c =
    let e = c.loop-k.sum-is in
    let I = simp e at c.loop-k.invariant in
    let n : c.loop-k.k ≡ c.args.self.now.reading.counts.shape.readings = omega arith in
    simp e (rw (n, add-one) at I.0)
