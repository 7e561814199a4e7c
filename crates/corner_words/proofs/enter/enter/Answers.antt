use Rattle.std.proofs.Common.{◌≡◌, Some, None, ◌∙◌, arith}
use Rattle.std.proofs.lemmas.Result.{err_from_is_err_and}
use Rattle.corner_words.specs.declared.enter.NotEntered.TheVariants.{NoRow}
use Rattle.corner_words.proofs.Entering.{no_row, gone_across, out_of_width}
use Rattle.corner_words.proofs.Holdings.{holding_long, holding_widths, holding_positive, holding_limit, leaving_inside, leaving_positive, limit_read}
use Rattle.corner_words.proofs.enter.enter.Goals as goal

pub invariant_of-tableau : goal.invariant_of-tableau
invariant_of-tableau c =
    let s = c.args.counts.shape in
    let ws = c.args.words.now in
    let h = c.requires.holding in
    record { long = holding_long s ws h; wide = holding_widths s ws h c.args.counts.fit }

pub returns-in_err-row : goal.returns-in_err-row
returns-in_err-row c =
    let none : c.leaving.result ≡ None = grind arith in
    let r = err_from_is_err_and c.from_residual.result c.from_residual.ensures.1 in
    let x = rw none at c.in_err-row.ensures.value in
    let y : c.in_err-row.field-0.0 ≡ NoRow = cc in
    let e : r.0 ≡ NoRow = r.2 ∙ y in
    rw (r.1, e) (no_row c.args.counts.shape c.args.limit c.args.words.now (rw none at c.leaving.ensures))

pub row_limit-left-requires-clause-row : goal.row_limit-left-requires-clause-row
row_limit-left-requires-clause-row c =
    let some : c.leaving.result ≡ Some c.in_ok-row.row = grind arith in
    leaving_inside c.args.counts.shape c.args.words.now c.requires.holding c.args.limit c.in_ok-row.row (rw some at c.leaving.ensures)

pub row_limit-left-requires-clause-limit : goal.row_limit-left-requires-clause-limit
row_limit-left-requires-clause-limit c =
    let some : c.leaving.result ≡ Some c.in_ok-row.row = grind arith in
    let inside = leaving_inside c.args.counts.shape c.args.words.now c.requires.holding c.args.limit c.in_ok-row.row (rw some at c.leaving.ensures) in
    holding_limit c.args.counts.shape c.args.words.now c.requires.holding c.in_ok-row.row inside

pub exchange-requires-clause-places : goal.exchange-requires-clause-places
exchange-requires-clause-places c =
    let some : c.leaving.result ≡ Some c.in_ok-row.row = grind arith in
    (leaving_inside c.args.counts.shape c.args.words.now c.requires.holding c.args.limit c.in_ok-row.row (rw some at c.leaving.ensures), c.requires.place)

pub exchange-requires-clause-positive : goal.exchange-requires-clause-positive
exchange-requires-clause-positive c =
    let s = c.args.counts.shape in
    let ws = c.args.words.now in
    let h = c.requires.holding in
    let some : c.leaving.result ≡ Some c.in_ok-row.row = grind arith in
    (holding_positive s ws h, leaving_positive s ws h c.args.limit c.in_ok-row.row (rw some at c.leaving.ensures) c.requires.place)

pub returns-in-Err : goal.returns-in-Err
returns-in-Err c =
    let some : c.leaving.result ≡ Some c.in_ok-row.row = grind arith in
    out_of_width c.args.counts.shape c.args.limit c.args.words.now c.requires.place c.in_ok-row.row (rw some at c.leaving.ensures) c.exchange.new.words c.in-Err.field-0 c.in-Err.ensures

pub returns-in-Ok : goal.returns-in-Ok
returns-in-Ok c =
    let s = c.args.counts.shape in
    let ws = c.args.words.now in
    let some : c.leaving.result ≡ Some c.in_ok-row.row = grind arith in
    let L = rw some at c.leaving.ensures in
    let inside = leaving_inside s ws c.requires.holding c.args.limit c.in_ok-row.row L in
    gone_across s c.args.limit ws c.requires.place c.in_ok-row.row L c.exchange.new.words c.row_limit-left.result (limit_read s ws c.in_ok-row.row c.row_limit-left.result inside c.row_limit-left.ensures) c.in-Ok.field-0 c.in-Ok.ensures
