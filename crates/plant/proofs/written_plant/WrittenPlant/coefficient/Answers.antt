use Rattle.std.proofs.Common.{Some, None, sym, ◌∙◌, subst, w32, SFits, rules}
use Rattle.plant.specs.Tables.{at_place, Found}
use Rattle.plant.specs.TableLaws.{table_found, table_absent}
use Rattle.plant.proofs.Questions.{of_limit, of_none, handed_out}
use Rattle.plant.proofs.written_plant.WrittenPlant.coefficient.Goals as goal

pub returns-in_err-limit : goal.returns-in_err-limit
returns-in_err-limit c =
    let limit : Found c.args.self.now.counts.shape.limits c.args.j None = subst (λ s. Found s.limits c.args.j None) c.shape-shape.ensures c.in_err-limit.ensures in
    c.from_residual.ensures ∙ sym (of_none _ _ c.args.j (λ l. at_place l.coefficients c.args.i) limit)

pub returns-in_err-command : goal.returns-in_err-command
returns-in_err-command c =
    let j = c.in_ok-limit.limit in
    let limit : Found c.args.self.now.counts.shape.limits c.args.j (Some j) = subst (λ s. Found s.limits c.args.j (Some j)) c.shape-shape.ensures c.in_ok-limit.ensures in
    let found : Found c.args.self.now.counts.shape.commands c.args.i None = subst (λ s. Found s.commands c.args.i None) c.shape-shape.ensures c.in_err-command.ensures in
    c.from_residual-in_err-command.ensures ∙ sym (of_limit _ _ c.args.j (λ l. at_place l.coefficients c.args.i) j limit ∙ table_absent _ _ c.args.i found)

pub returns : goal.returns
returns c =
    let j = c.in_ok-limit.limit in
    let i = c.in_ok-command.command in
    let limit : Found c.args.self.now.counts.shape.limits c.args.j (Some j) = subst (λ s. Found s.limits c.args.j (Some j)) c.shape-shape.ensures c.in_ok-limit.ensures in
    let found : Found c.args.self.now.counts.shape.commands c.args.i (Some i) = subst (λ s. Found s.commands c.args.i (Some i)) c.shape-shape.ensures c.in_ok-command.ensures in
    let fits : SFits w32 c.cell.result = search rules in
    handed_out c.cell.result _ _ fits c.cell.ensures (of_limit _ _ c.args.j (λ l. at_place l.coefficients c.args.i) j limit ∙ table_found _ _ c.args.i i found)
