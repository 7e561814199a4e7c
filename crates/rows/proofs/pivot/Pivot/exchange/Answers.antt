use Rattle.std.proofs.Common.{w64, SFits, rules}
use Rattle.std.proofs.lemmas.Int.{to_z-of_z}
use Rattle.std.proofs.lemmas.Result.{MatchResult-from_err}
use Rattle.exact.specs.Vectors.{entries}
use Rattle.rows.specs.Pivots.{leaving}
use Rattle.rows.proofs.Grid.{in_width_part}
use Rattle.rows.proofs.Exchanges.{copy_part, copy_at}
use Rattle.rows.proofs.pivot.Pivot.exchange.Goals as goal

pub returns-in_err-next : goal.returns-in_err-next
returns-in_err-next c =
    let a = copy_at c.args.self.width c.args.self.row c.args.words.now c.copied-row.result c.copied-row.ensures c.args.self.column c.args.self.column_in in
    let h1 : SFits w64 (entries c.copied-row.result c.args.self.column) = search rules in
    let h2 : SFits w64 c.divisor-common.result = search rules in
    let h3 : SFits w64 c.args.self.denominator = search rules in
    let o = simp to_z-of_z at c.in_err-next.ensures in
    MatchResult-from_err c.from_residual.result _ _ c.from_residual.ensures.0
    (λ y. record { divisor = c.divisor-common.result; is_divisor = c.divisor-common.ensures; out = leaving c.args.self.column c.args.self.column_in (rw (← a) o) })

pub exchange_rows-requires-clause-widths : goal.exchange_rows-requires-clause-widths
exchange_rows-requires-clause-widths c =
    let e = copy_part c.args.self.width c.args.self.row c.args.words.now c.copied-row.result c.copied-row.ensures in
    (c.requires.widths, rw e (in_width_part c.args.self.row c.args.self.width c.args.words.now c.requires.widths))

pub returns-in_err-exchange_rows : goal.returns-in_err-exchange_rows
returns-in_err-exchange_rows c =
    let h1 : SFits w64 c.divisor-common.result = search rules in
    let h2 : SFits w64 c.args.self.denominator = search rules in
    let o = simp to_z-of_z at c.in_err-exchange_rows.ensures in
    MatchResult-from_err c.from_residual-in_err-exchange_rows.result _ _ c.from_residual-in_err-exchange_rows.ensures.0
    (λ y. record { divisor = c.divisor-common.result; is_divisor = c.divisor-common.ensures; out = o })

pub returns : goal.returns
returns c =
    let a = copy_at c.args.self.width c.args.self.row c.args.words.now c.copied-row.result c.copied-row.ensures c.args.self.column c.args.self.column_in in
    let h1 : SFits w64 c.divisor-common.result = search rules in
    let h2 : SFits w64 c.args.self.denominator = search rules in
    let h3 : SFits w64 (entries c.copied-row.result c.args.self.column) = search rules in
    let h4 : SFits w64 c.in_ok-next.next = search rules in
    let n = simp to_z-of_z at c.in_ok-next.ensures in
    simp to_z-of_z (record {
      divisor = c.divisor-common.result;
      is_divisor = c.divisor-common.ensures;
      denominator = rw (← a) n.0;
      denominator_width = n.1;
      rows = simp to_z-of_z at c.in_ok-exchange_rows.ensures;
      same_length = c.exchange_rows.auto.words;
    })
