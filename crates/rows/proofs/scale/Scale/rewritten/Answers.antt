use Rattle.std.proofs.Common.{◌≡◌, ◌-ℤ◌, ◌*ℤ◌, w64, SFits, rules}
use Rattle.std.proofs.lemmas.Int.{to_z-of_z}
use Rattle.rows.specs.Rewrites.{rewritten}
use Rattle.rows.proofs.scale.Scale.rewritten.Goals as goal

pub returns : goal.returns
unfolding rewritten
returns c =
    let h1 : SFits w64 c.args.self.by = search rules in let h5 : SFits w64 c.args.self.divisor = search rules in
    let h2 = c.ranges.f in let h3 = c.ranges.x in let h4 = c.ranges.y in
    let h6 : SFits w64 c.difference.result = search rules in
    let e : c.difference.result ≡ c.args.self.by *ℤ c.args.x -ℤ c.args.f *ℤ c.args.y = simp to_z-of_z at c.difference.ensures in
    let q = simp to_z-of_z at c.quotient.ensures in
    simp e at q
