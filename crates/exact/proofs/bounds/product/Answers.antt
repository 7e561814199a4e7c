use Rattle.std.proofs.lemmas.Int.{to_z-of_z}
use Rattle.exact.proofs.Sizes.{product_fits}
use Rattle.exact.proofs.bounds.product.Goals as goal

pub overflow_mul-result : goal.overflow_mul-result
overflow_mul-result c =
    let h = c.ranges.x in let k = c.ranges.y in
    simp to_z-of_z (product_fits c.args.x c.args.y c.requires.0 c.requires.1)

pub returns : goal.returns
returns c =
    let h = c.ranges.x in let k = c.ranges.y in
    let f = product_fits c.args.x c.args.y c.requires.0 c.requires.1 in
    simp to_z-of_z
