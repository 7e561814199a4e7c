use Rattle.std.proofs.Common.{◌≡◌, ◌-ℤ◌, ◌*ℤ◌, arith, w64, SFits, rules}
use Rattle.std.proofs.lemmas.Int.{to_z-of_z}
use Rattle.exact.proofs.Sizes.{difference_small, fits_64}
use Rattle.rows.proofs.numbers.difference.Goals as goal

-- The difference is what is to be returned, and fits.
found : (c : goal.After-product-2) → (c.product.result -ℤ c.product-2.result ≡ c.args.by *ℤ c.args.x -ℤ c.args.f *ℤ c.args.y) × SFits w64 (c.product.result -ℤ c.product-2.result)
found c =
    let h1 = c.ranges.by in let h2 = c.ranges.x in let h3 = c.ranges.f in let h4 = c.ranges.y in
    let a : c.product.result ≡ c.args.by *ℤ c.args.x = simp to_z-of_z at c.product.ensures in
    let b : c.product-2.result ≡ c.args.f *ℤ c.args.y = simp to_z-of_z at c.product-2.ensures in
    let d = difference_small c.args.by c.args.x c.args.f c.args.y c.requires.0 c.requires.1 c.requires.2 c.requires.3 in
    (rw (a, b), rw (a, b) (fits_64 (c.args.by *ℤ c.args.x -ℤ c.args.f *ℤ c.args.y) (omega arith)))

pub overflow_sub-result : goal.overflow_sub-result
overflow_sub-result c =
    let h1 : SFits w64 c.product.result = search rules in
    let h2 : SFits w64 c.product-2.result = search rules in
    simp to_z-of_z (found c).1

pub returns : goal.returns
returns c =
    let h1 : SFits w64 c.product.result = search rules in
    let h2 : SFits w64 c.product-2.result = search rules in
    let h3 = (found c).1 in
    simp to_z-of_z (found c).0
