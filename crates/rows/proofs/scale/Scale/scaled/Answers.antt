use Rattle.std.proofs.Common.{◌≡◌, ◌*ℤ◌, w64, SFits, rules}
use Rattle.std.proofs.lemmas.Int.{to_z-of_z}
use Rattle.rows.specs.Rewrites.{scaled}
use Rattle.rows.proofs.scale.Scale.scaled.Goals as goal

pub returns : goal.returns
unfolding scaled
returns c =
    let h1 : SFits w64 c.args.self.by = search rules in let h3 : SFits w64 c.args.self.divisor = search rules in
    let h2 = c.ranges.x in
    let h4 : SFits w64 c.product.result = search rules in
    let e : c.product.result ≡ c.args.self.by *ℤ c.args.x = simp to_z-of_z at c.product.ensures in
    let q = simp to_z-of_z at c.quotient.ensures in
    simp e at q
