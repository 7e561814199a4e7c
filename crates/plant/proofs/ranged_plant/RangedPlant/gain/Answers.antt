use Rattle.std.proofs.Common.{Some, None, sym, ap, ◌∙◌, subst, w32, SFits, rules}
use Rattle.plant.specs.Tables.{Found}
use Rattle.plant.specs.TableLaws.{table_found, table_absent}
use Rattle.plant.specs.Meaning.{gain_of}
use Rattle.plant.specs.Ranged.{or_zero}
use Rattle.plant.proofs.Questions.{handed_out}
use Rattle.plant.proofs.ranged_plant.RangedPlant.gain.Goals as goal

pub returns-in_err-from_zero : goal.returns-in_err-from_zero
returns-in_err-from_zero g c =
    let f : Found c.args.self.now.table.counts.shape.commands c.args.i None = subst (λ s. Found s.commands c.args.i None) c.shape.ensures c.in_err-from_zero.ensures in
    c.from_residual.ensures ∙ sym (table_absent _ _ c.args.i f)

pub returns : goal.returns
returns g c =
    let r = c.args.self.now in
    let k = c.in_ok-from_zero.field-0 in
    let f : Found r.table.counts.shape.commands c.args.i (Some k) = subst (λ s. Found s.commands c.args.i (Some k)) c.shape.ensures c.in_ok-from_zero.ensures in
    let p = g.P.Plant.meaning r.below in
    let fits : SFits w32 c.unwrap_or.result = search rules in
    handed_out c.unwrap_or.result _ _ fits (c.unwrap_or.ensures ∙ ap or_zero (c.gain.ensures ∙ ap (gain_of p) f.0)) (table_found r.table.counts.shape.commands _ c.args.i k f)
