use Rattle.std.proofs.Common.{◌≡◌, suc, ◌*◌, ◌<◌, ◌≤◌, length, pos, ◌+ℤ◌, ◌*ℤ◌, nat_abs, sym, ◌∙◌, ap₂, arith, w64, SFits, rules}
use Rattle.std.proofs.lemmas.Int.{to_z-of_z}
use Rattle.std.proofs.lemmas.List.{length_push}
use Rattle.std.proofs.lemmas.Slice.Zip.{zip_turn, zip_end}
use Rattle.exact.specs.Bounds.{width}
use Rattle.exact.specs.Vectors.{entries}
use Rattle.exact.proofs.Sums.{dot_none, dot_more}
use Rattle.exact.proofs.Sizes.{product_small, abs_add, fits_64}
use Rattle.exact.proofs.vectors.dot.Goals as goal

pub loop-x-init : goal.loop-x-init
loop-x-init c = (dot_none _ _, omega arith)

-- One product more: its place, its value, and the size of the new sum.
added : (c : goal.After-product-sum) → (length c.loop-x.yielded < length c.args.a.now) × (c.product-sum.result ≡ entries c.args.a.now (length c.loop-x.yielded) *ℤ entries c.args.b.now (length c.loop-x.yielded)) × (nat_abs (c.loop-x.sum +ℤ c.product-sum.result) ≤ suc (length c.loop-x.yielded) * (width * width))
added c =
    let n = length c.loop-x.yielded in
    let x = entries c.args.a.now n in
    let y = entries c.args.b.now n in
    let hx : SFits w64 c.in-Some.x.now = search rules in
    let hy : SFits w64 c.in-Some.y.now = search rules in
    let t = zip_turn c.args.a.now c.args.b.now c.loop-x.yielded c.into_iter-x-iterator.result c.loop-x.x-iterator c.next.new.self c.next.result (search rules) (search rules) c.loop-x.yielded_by (c.in-Some.x, c.in-Some.y) c.in-Some.is c.next.ensures.steps in
    let d : c.product-sum.result ≡ c.in-Some.x.now *ℤ c.in-Some.y.now = simp to_z-of_z at c.product-sum.ensures in
    let e : c.product-sum.result ≡ x *ℤ y = rw (← t.2 (pos 0), ← t.3 (pos 0)) d in
    let p : nat_abs c.product-sum.result ≤ width * width = rw e (product_small width width x y (c.requires.widths.0 n) (c.requires.widths.1 n)) in
    let I = simp c.loop-x.sum-is at c.loop-x.invariant in
    (t.0, e, omega (arith, abs_add c.loop-x.sum c.product-sum.result, I.1))

pub overflow_add-sum : goal.overflow_add-sum
overflow_add-sum c =
    let h : SFits w64 c.product-sum.result = search rules in
    let e = c.loop-x.sum-is in
    let a = added c in
    simp (to_z-of_z, e) (fits_64 (c.loop-x.sum +ℤ c.product-sum.result) (omega arith))

pub loop-x-preserved : goal.loop-x-preserved
loop-x-preserved c =
    let h : SFits w64 c.product-sum.result = search rules in
    let e = c.loop-x.sum-is in
    let a = added c in
    let I = simp e at c.loop-x.invariant in
    let f : SFits w64 (c.loop-x.sum +ℤ c.product-sum.result) = fits_64 (c.loop-x.sum +ℤ c.product-sum.result) (omega arith) in
    let m = dot_more (length c.loop-x.yielded) (entries c.args.a.now) (entries c.args.b.now) in
    simp (to_z-of_z, e, length_push) (ap₂ ◌+ℤ◌ I.0 a.1 ∙ sym m, omega arith)

pub returns : goal.returns
returns c =
    let t = zip_end c.args.a.now c.args.b.now c.loop-x.yielded c.into_iter-x-iterator.result c.loop-x.x-iterator c.next.new.self c.next.result (search rules) (search rules) c.loop-x.yielded_by c.in-None.is c.next.ensures.steps in
    let e : length c.args.a.now ≡ length c.loop-x.yielded = omega arith in
    rw e c.loop-x.invariant.0
