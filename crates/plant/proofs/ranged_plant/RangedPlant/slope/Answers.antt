use Rattle.std.proofs.Common.{Some, None, sym, ap, ◌∙◌, subst, w32, SFits, rules}
use Rattle.plant.specs.Tables.{at_place, Found}
use Rattle.plant.specs.TableLaws.{table_found}
use Rattle.plant.specs.Meaning.{slope_of}
use Rattle.plant.specs.Ranged.{or_zero, ranged_by, RowAt}
use Rattle.plant.specs.RangedBounds.{ranged_bounded}
use Rattle.plant.specs.declared.row.Row.TheVariants.{Kept}
use Rattle.plant.proofs.Questions.{handed_out}
use Rattle.plant.proofs.RangedRows.{of_kept, of_no_row, range_slope, no_slope, asked_below}
use Rattle.plant.proofs.ranged_plant.RangedPlant.slope.Goals as goal

pub returns-in_err-from_zero : goal.returns-in_err-from_zero
returns-in_err-from_zero g c =
    let r = c.args.self.now in
    let p = g.P.Plant.meaning r.below in
    let f : Found r.table.counts.shape.readings c.args.k None = subst (λ s. Found s.readings c.args.k None) c.shape.ensures c.in_err-from_zero.ensures in
    c.from_residual.ensures ∙ sym (no_slope (ranged_by r.table p) (ranged_bounded p (g.met.P.Plant.bounded r.below) r.table) c.args.j c.args.k f)

pub returns-in_err-row : goal.returns-in_err-row
returns-in_err-row g c =
    let r = c.args.self.now in
    let t = r.table in
    c.from_residual-in_err-row.ensures ∙ sym (of_no_row (g.P.Plant.meaning r.below) t.counts.shape t.lows t.highs c.args.j (λ l. at_place l.slopes c.args.k) c.in_err-row.ensures)

pub returns-in-Kept : goal.returns-in-Kept
returns-in-Kept g c =
    let r = c.args.self.now in
    let p = g.P.Plant.meaning r.below in
    let t = r.table in
    let row : RowAt t.counts.shape c.args.j (Some Kept) = subst (λ o. RowAt t.counts.shape c.args.j (Some o)) c.in-Kept.is c.in_ok-row.ensures in
    let k = c.in_ok-from_zero.field-0 in
    let f : Found t.counts.shape.readings c.args.k (Some k) = subst (λ s. Found s.readings c.args.k (Some k)) c.shape.ensures c.in_ok-from_zero.ensures in
    let fits : SFits w32 c.unwrap_or.result = search rules in
    handed_out c.unwrap_or.result _ _ fits (c.unwrap_or.ensures ∙ ap or_zero (c.slope.ensures ∙ sym (asked_below (slope_of p) c.args.j c.args.k k row.0 f.0)))
    (of_kept p t.counts.shape t.lows t.highs c.args.j (λ l. at_place l.slopes c.args.k) row ∙ table_found t.counts.shape.readings _ c.args.k k f)

pub returns-in-AtMost : goal.returns-in-AtMost
returns-in-AtMost g c =
    let t = c.args.self.now.table in
    let k = c.in_ok-from_zero.field-0 in
    let f : Found t.counts.shape.readings c.args.k (Some k) = subst (λ s. Found s.readings c.args.k (Some k)) c.shape.ensures c.in_ok-from_zero.ensures in
    sym (range_slope (g.P.Plant.meaning c.args.self.now.below) t.counts.shape t.lows t.highs c.args.j c.args.k _ c.in_ok-row.field-0 c.in_ok-row.ensures c.in-AtMost.is f)
