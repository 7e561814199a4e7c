use Rattle.std.proofs.Common.{sym, ap, ◌∙◌}
use Rattle.plant.specs.TableLaws.{length_table}
use Rattle.plant.proofs.ranged_plant.RangedPlant.commands.Goals as goal

pub returns : goal.returns
returns g c = ap (λ s. s.commands) c.shape.ensures ∙ sym (length_table c.args.self.now.table.counts.shape.commands _)
