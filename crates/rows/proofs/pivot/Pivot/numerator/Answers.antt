use Rattle.std.proofs.Common.{◌≡◌, ◌-ℤ◌, ◌*ℤ◌, sym, ◌∙◌, w64, SFits, rules}
use Rattle.std.proofs.lemmas.Int.{to_z-of_z}
use Rattle.rows.specs.Cells.{cell}
use Rattle.rows.proofs.Pivots.{numerator_pivot, numerator_other}
use Rattle.rows.proofs.pivot.Pivot.numerator.Goals as goal

pub returns-then-s-self : goal.returns-then-s-self
returns-then-s-self c =
    let w = c.args.self.width in let p = c.args.self.row in let xs = c.args.words.now in
    let h1 : SFits w64 c.args.self.denominator = search rules in
    let h2 : SFits w64 (cell w xs p c.args.c) = search rules in
    let h3 : SFits w64 c.product.result = search rules in
    let e : c.product.result ≡ c.args.self.denominator *ℤ cell w xs p c.args.c = simp to_z-of_z at c.product.ensures in
    simp to_z-of_z (e ∙ sym (numerator_pivot c.args.self.denominator w p c.args.self.column xs c.args.s c.args.c c.if-s-self.true))

pub returns : goal.returns
returns c =
    let w = c.args.self.width in let p = c.args.self.row in let xs = c.args.words.now in
    let h1 : SFits w64 (cell w xs p c.args.self.column) = search rules in
    let h2 : SFits w64 (cell w xs c.args.s c.args.c) = search rules in
    let h3 : SFits w64 (cell w xs c.args.s c.args.self.column) = search rules in
    let h4 : SFits w64 (cell w xs p c.args.c) = search rules in
    let h5 : SFits w64 c.difference.result = search rules in
    let e : c.difference.result ≡ cell w xs p c.args.self.column *ℤ cell w xs c.args.s c.args.c -ℤ cell w xs c.args.s c.args.self.column *ℤ cell w xs p c.args.c = simp to_z-of_z at c.difference.ensures in
    simp to_z-of_z (e ∙ sym (numerator_other c.args.self.denominator w p c.args.self.column xs c.args.s c.args.c c.if-s-self.false))
