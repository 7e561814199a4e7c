use Rattle.std.proofs.Common.{◌≡◌, get_or, pos, ◌-ℤ◌, neg_ℤ, Some, sym, ap, ◌∙◌, subst, arith, w32, SFits, to_z, of_z, rules}
use Rattle.std.proofs.lemmas.Int.{ints}
use Rattle.words.specs.Bounds.{Value}
use Rattle.plant.specs.Meaning.{constant_of}
use Rattle.plant.specs.Ranged.{or_zero, RowAt}
use Rattle.plant.specs.declared.row.Row.TheVariants.{Kept, AtMost, AtLeast}
use Rattle.plant.proofs.Questions.{handed_out}
use Rattle.plant.proofs.RangedRows.{of_kept, of_high, of_low, of_no_row, asked_of_limit}
use Rattle.plant.proofs.ranged_plant.RangedPlant.constant.Goals as goal

pub returns-in_err-row : goal.returns-in_err-row
returns-in_err-row g c =
    let r = c.args.self.now in
    let t = r.table in
    c.from_residual.ensures ∙ sym (of_no_row (g.P.Plant.meaning r.below) t.counts.shape t.lows t.highs c.args.j (λ l. Some l.constant) c.in_err-row.ensures)

pub returns-in-Kept : goal.returns-in-Kept
returns-in-Kept g c =
    let r = c.args.self.now in
    let p = g.P.Plant.meaning r.below in
    let t = r.table in
    let row : RowAt t.counts.shape c.args.j (Some Kept) = subst (λ o. RowAt t.counts.shape c.args.j (Some o)) c.in-Kept.is c.in_ok-row.ensures in
    let fits : SFits w32 c.unwrap_or.result = search rules in
    handed_out c.unwrap_or.result _ _ fits (c.unwrap_or.ensures ∙ ap or_zero (c.constant.ensures ∙ sym (asked_of_limit (constant_of p) c.args.j row.0)))
    (of_kept p t.counts.shape t.lows t.highs c.args.j (λ l. Some l.constant) row)

pub returns-in-AtMost : goal.returns-in-AtMost
returns-in-AtMost g c =
    let r = c.args.self.now in
    let t = r.table in
    let h = c.in-AtMost.held in
    let row : RowAt t.counts.shape c.args.j (Some (AtMost h)) = subst (λ o. RowAt t.counts.shape c.args.j (Some o)) c.in-AtMost.is c.in_ok-row.ensures in
    let z = get_or t.highs h (pos 0) in
    let v : Value z = t.high_values h (omega (arith, row.0, t.counts.fit.1)) in
    let same : to_z w32 (of_z w32 z) ≡ z = omega (arith, ints, v.0, v.1) in
    ap Some same ∙ sym (of_high (g.P.Plant.meaning r.below) t.counts.shape t.lows t.highs c.args.j (λ l. Some l.constant) h row)

pub returns-in-AtLeast : goal.returns-in-AtLeast
returns-in-AtLeast g c =
    let r = c.args.self.now in
    let t = r.table in
    let h = c.in-AtLeast.held in
    let row : RowAt t.counts.shape c.args.j (Some (AtLeast h)) = subst (λ o. RowAt t.counts.shape c.args.j (Some o)) c.in-AtLeast.is c.in_ok-row.ensures in
    let z = get_or t.lows h (pos 0) in
    let v : Value z = t.low_values h (omega (arith, row.0, t.counts.fit.1)) in
    let same : to_z w32 (of_z w32 (pos 0 -ℤ to_z w32 (of_z w32 z))) ≡ neg_ℤ z = omega (arith, ints, v.0, v.1) in
    ap Some same ∙ sym (of_low (g.P.Plant.meaning r.below) t.counts.shape t.lows t.highs c.args.j (λ l. Some l.constant) h row)
