use Rattle.std.proofs.Common.{◌+◌, Some, None, sym, ap, ◌∙◌, subst, w32, SFits, rules}
use Rattle.words.specs.Layout.{limit_place}
use Rattle.plant.specs.Tables.{Found}
use Rattle.plant.specs.Written.{number_at}
use Rattle.plant.proofs.Questions.{of_limit, of_none, handed_out}
use Rattle.plant.proofs.written_plant.WrittenPlant.constant.Goals as goal

pub returns-in_err-limit : goal.returns-in_err-limit
returns-in_err-limit c =
    let limit : Found c.args.self.now.counts.shape.limits c.args.j None = subst (λ s. Found s.limits c.args.j None) c.shape-shape.ensures c.in_err-limit.ensures in
    c.from_residual.ensures ∙ sym (of_none _ _ c.args.j (λ l. Some l.constant) limit)

pub returns : goal.returns
returns c =
    let j = c.in_ok-limit.limit in
    let w = c.args.self.now in
    let limit : Found w.counts.shape.limits c.args.j (Some j) = subst (λ s. Found s.limits c.args.j (Some j)) c.shape-shape.ensures c.in_ok-limit.ensures in
    let fits : SFits w32 c.cell.result = search rules in
    let place = ap (λ s. number_at w.words.now (limit_place w.counts.shape j + s.commands)) c.shape-shape.ensures in
    handed_out c.cell.result _ _ fits (c.cell.ensures ∙ place) (of_limit _ _ c.args.j (λ l. Some l.constant) j limit)
