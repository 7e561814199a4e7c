use Rattle.std.proofs.Common.{sym, ap, ◌∙◌}
use Rattle.plant.specs.TableLaws.{length_table}
use Rattle.plant.proofs.written_plant.WrittenPlant.limits.Goals as goal

pub returns : goal.returns
returns c = ap (λ s. s.limits) c.shape.ensures ∙ sym (length_table c.args.self.now.counts.shape.limits _)
