use Rattle.std.proofs.Common.{◌≡◌, ◌+◌, ◌-◌, ◌*◌, ◌<◌, ◌≤◌, length, arith, w64, SFits, rules}
use Rattle.std.proofs.lemmas.Int.{to_z-of_z}
use Rattle.std.proofs.lemmas.Result.{MatchResult-from_err, MatchResult-weaker}
use Rattle.exact.specs.Vectors.{entries}
use Rattle.rows.specs.Rewrites.{RowsRewritten}
use Rattle.rows.proofs.Grid.{row_in}
use Rattle.rows.proofs.Exchanges.{other_out, leaving_out, exchanged}
use Rattle.rows.proofs.pivot.Pivot.exchange_rows.Goals as goal

pub returns-in_err-rewrite_rows : goal.returns-in_err-rewrite_rows
returns-in_err-rewrite_rows c =
    let e : length c.args.row.now ≡ c.args.self.width = c.requires.sizes.2 in
    let h1 : SFits w64 c.args.leaving.divisor = search rules in
    let h2 : SFits w64 (entries c.args.row.now c.args.self.column) = search rules in
    let o = simp (to_z-of_z, e) at c.in_err-rewrite_rows.ensures in
    MatchResult-from_err c.from_residual.result _ _ c.from_residual.ensures.0 (λ y. other_out c.args.leaving.by c.args.leaving.divisor c.args.self.column c.args.self.row c.args.self.width c.args.count c.args.row.now c.args.words.now c.args.self.column_in c.requires.copy o)

pub returns : goal.returns
returns c =
    let w = c.args.self.width in let p = c.args.self.row in let xs = c.rewrite_rows.new.words in
    let e : length c.args.row.now ≡ w = c.requires.sizes.2 in
    let h1 : SFits w64 c.args.leaving.divisor = search rules in
    let h2 : SFits w64 (entries c.args.row.now c.args.self.column) = search rules in
    let among : p < c.args.count = omega arith in
    let i = row_in p w c.args.count among in
    let k : p * w + w ≤ length xs = omega (arith, c.rewrite_rows.auto.words) in
    let d : p * w + w - p * w ≡ w = omega arith in
    let E : RowsRewritten (entries c.args.row.now c.args.self.column) c.args.leaving.divisor c.args.self.column p w c.args.count c.args.row.now c.args.words.now xs = simp (to_z-of_z, e) at c.in_ok-rewrite_rows.ensures in
    MatchResult-weaker c.scale_row.result c.scale_row.ensures
    (λ _ R. rw d (exchanged c.args.leaving.by c.args.leaving.divisor c.args.self.column p w c.args.count c.args.row.now c.args.words.now c.args.self.column_in c.requires.copy xs E k c.scale_row.new.row among (omega (arith, c.scale_row.auto.row)) R))
    (λ _ R. leaving_out c.args.leaving.by c.args.leaving.divisor c.args.self.column p w c.args.count c.args.row.now c.args.words.now c.args.self.column_in c.requires.copy xs E k R)
