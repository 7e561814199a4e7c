use Rattle.std.proofs.Common.{sym, subst}
use Rattle.corner_words.proofs.Holdings.{holding_limit, leaving_inside, limit_read}
use Rattle.working_tableau.specs.Crossings.{LeftAnswer}
use Rattle.working_tableau.proofs.Corners.{corner_holding}
use Rattle.working_tableau.proofs.Crossings.{none_left, limit_left}
use Rattle.working_tableau.proofs.crossing.left_by.Goals as goal

pub returns-in_err-row : goal.returns-in_err-row
returns-in_err-row c =
    let t = c.args.tableau in
    subst (LeftAnswer t.counts.shape c.args.limit t.words.now) (sym c.from_residual.ensures) (none_left t.counts.shape c.args.limit t.words.now c.in_err-row.ensures)

pub row_limit-requires : goal.row_limit-requires
row_limit-requires c =
    let s = c.args.tableau.counts.shape in
    let ws = c.args.tableau.words.now in
    let h = corner_holding s ws c.requires.corner in
    let inside = leaving_inside s ws h c.args.limit c.in_ok-row.row c.in_ok-row.ensures in
    record { row = inside; limit = holding_limit s ws h c.in_ok-row.row inside }

pub returns : goal.returns
returns c =
    let s = c.args.tableau.counts.shape in
    let ws = c.args.tableau.words.now in
    let inside = leaving_inside s ws (corner_holding s ws c.requires.corner) c.args.limit c.in_ok-row.row c.in_ok-row.ensures in
    limit_left s c.args.limit ws c.in_ok-row.row c.row_limit.result c.in_ok-row.ensures (limit_read s ws c.in_ok-row.row c.row_limit.result inside c.row_limit.ensures)
