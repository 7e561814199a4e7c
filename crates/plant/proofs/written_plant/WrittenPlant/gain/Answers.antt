use Rattle.std.proofs.Common.{Some, None, sym, ◌∙◌, subst, w32, SFits, rules}
use Rattle.plant.specs.Tables.{Found}
use Rattle.plant.specs.TableLaws.{table_found, table_absent}
use Rattle.plant.proofs.Questions.{handed_out}
use Rattle.plant.proofs.written_plant.WrittenPlant.gain.Goals as goal

pub returns-in_err-command : goal.returns-in_err-command
returns-in_err-command c =
    let found : Found c.args.self.now.counts.shape.commands c.args.i None = subst (λ s. Found s.commands c.args.i None) c.shape.ensures c.in_err-command.ensures in
    c.from_residual.ensures ∙ sym (table_absent _ _ c.args.i found)

pub returns : goal.returns
returns c =
    let k = c.in_ok-command.command in
    let found : Found c.args.self.now.counts.shape.commands c.args.i (Some k) = subst (λ s. Found s.commands c.args.i (Some k)) c.shape.ensures c.in_ok-command.ensures in
    let fits : SFits w32 c.number.result = search rules in
    handed_out c.number.result _ _ fits c.number.ensures (table_found _ _ c.args.i k found)
