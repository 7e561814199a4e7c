use Rattle.std.specs.Int.{from_bool}
use Rattle.std.proofs.Common.{◌≡◌, Bool, true, false, cond, length, ℤ, pos, negsuc, ◌-ℤ◌, Some, None, sym, ap, ◌∙◌, subst, w32, SFits, to_z, of_z, rules, arith}
use Rattle.std.proofs.lemmas.Int.{ints}
use Rattle.std.proofs.lemmas.Bool.Decides.{nat_tests}
use Rattle.plant.specs.Ranges.{alone}
use Rattle.plant.specs.Tables.{at_place, Found}
use Rattle.plant.specs.TableLaws.{length_table, table_found}
use Rattle.plant.specs.Meaning.{coefficient_of}
use Rattle.plant.specs.Ranged.{or_zero, ranged_by, RowAt}
use Rattle.plant.specs.RangedBounds.{ranged_bounded}
use Rattle.plant.specs.declared.row.Row.TheVariants.{Kept, AtMost, AtLeast}
use Rattle.plant.proofs.Questions.{handed_out}
use Rattle.plant.proofs.RangedRows.{of_kept, of_no_row, high_coefficient, low_coefficient, no_coefficient, asked_below}
use Rattle.plant.proofs.ranged_plant.RangedPlant.coefficient.Goals as goal

-- The number of a test, with its sign turned.
negative : (b : Bool) (z : ℤ) → z ≡ pos (from_bool b) → to_z w32 (of_z w32 (pos 0 -ℤ to_z w32 (of_z w32 z))) ≡ cond b (negsuc 0) (pos 0)
negative true z e = omega (arith, ints)
negative false z e = omega (arith, ints)

pub returns-in_err-command : goal.returns-in_err-command
returns-in_err-command g c =
    let r = c.args.self.now in
    let p = g.P.Plant.meaning r.below in
    let t = r.table in
    let f : Found (length (ranged_by t p).gains) c.args.i None = subst (λ n. Found n c.args.i None) (ap (λ s. s.commands) c.shape.ensures ∙ sym (length_table t.counts.shape.commands _)) c.in_err-command.ensures in
    c.from_residual.ensures ∙ sym (no_coefficient (ranged_by t p) (ranged_bounded p (g.met.P.Plant.bounded r.below) t) c.args.j c.args.i f)

pub returns-in_err-row : goal.returns-in_err-row
returns-in_err-row g c =
    let r = c.args.self.now in
    let t = r.table in
    c.from_residual-in_err-row.ensures ∙ sym (of_no_row (g.P.Plant.meaning r.below) t.counts.shape t.lows t.highs c.args.j (λ l. at_place l.coefficients c.args.i) c.in_err-row.ensures)

pub returns-in-Kept : goal.returns-in-Kept
returns-in-Kept g c =
    let r = c.args.self.now in
    let p = g.P.Plant.meaning r.below in
    let t = r.table in
    let row : RowAt t.counts.shape c.args.j (Some Kept) = subst (λ o. RowAt t.counts.shape c.args.j (Some o)) c.in-Kept.is c.in_ok-row.ensures in
    let k = c.in_ok-command.command in
    let f : Found t.counts.shape.commands c.args.i (Some k) = subst (λ s. Found s.commands c.args.i (Some k)) c.shape.ensures c.in_ok-command.ensures in
    let fits : SFits w32 c.unwrap_or.result = search rules in
    handed_out c.unwrap_or.result _ _ fits (c.unwrap_or.ensures ∙ ap or_zero (c.coefficient.ensures ∙ sym (asked_below (coefficient_of p) c.args.j c.args.i k row.0 f.0)))
    (of_kept p t.counts.shape t.lows t.highs c.args.j (λ l. at_place l.coefficients c.args.i) row ∙ table_found t.counts.shape.commands _ c.args.i k f)

pub returns-in-AtMost : goal.returns-in-AtMost
returns-in-AtMost g c =
    let t = c.args.self.now.table in
    let h = c.in-AtMost.held in
    let k = c.in_ok-command.command in
    let row : RowAt t.counts.shape c.args.j (Some (AtMost h)) = subst (λ o. RowAt t.counts.shape c.args.j (Some o)) c.in-AtMost.is c.in_ok-row.ensures in
    let fits : SFits w32 c.from.result = search rules in
    let f : Found t.counts.shape.commands c.args.i (Some k) = subst (λ s. Found s.commands c.args.i (Some k)) c.shape.ensures c.in_ok-command.ensures in
    let one : c.from.result ≡ alone h (pos 1) k = grind (arith, nat_tests) in
    handed_out c.from.result _ _ fits one (high_coefficient (g.P.Plant.meaning c.args.self.now.below) t.counts.shape t.lows t.highs c.args.j c.args.i k h row f)

pub returns-in-AtLeast : goal.returns-in-AtLeast
returns-in-AtLeast g c =
    let t = c.args.self.now.table in
    let h = c.in-AtLeast.held in
    let row : RowAt t.counts.shape c.args.j (Some (AtLeast h)) = subst (λ o. RowAt t.counts.shape c.args.j (Some o)) c.in-AtLeast.is c.in_ok-row.ensures in
    let k = c.in_ok-command.command in
    let f : Found t.counts.shape.commands c.args.i (Some k) = subst (λ s. Found s.commands c.args.i (Some k)) c.shape.ensures c.in_ok-command.ensures in
    let minus = negative _ c.from-in-AtLeast.result c.from-in-AtLeast.ensures in
    ap Some minus ∙ sym (low_coefficient (g.P.Plant.meaning c.args.self.now.below) t.counts.shape t.lows t.highs c.args.j c.args.i k h row f)
