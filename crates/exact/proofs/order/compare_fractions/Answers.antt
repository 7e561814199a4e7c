use Rattle.std.proofs.Common.{◌≡◌, ◌*ℤ◌, w64, SFits, rules}
use Rattle.std.proofs.lemmas.Int.{to_z-of_z}
use Rattle.exact.proofs.order.compare_fractions.Goals as goal

pub returns : goal.returns
returns c =
    let hx = c.ranges.x in let hs = c.ranges.s in let hy = c.ranges.y in let ht = c.ranges.t in
    let ha : SFits w64 c.product.result = search rules in
    let hb : SFits w64 c.product-2.result = search rules in
    let a : c.product.result ≡ c.args.t *ℤ c.args.x = simp to_z-of_z at c.product.ensures in
    let b : c.product-2.result ≡ c.args.s *ℤ c.args.y = simp to_z-of_z at c.product-2.ensures in
    rw (← a, ← b) (simp to_z-of_z at c.cmp.ensures)
