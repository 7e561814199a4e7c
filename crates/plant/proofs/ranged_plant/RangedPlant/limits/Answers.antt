use Rattle.std.proofs.Common.{◌+◌, ◌*◌, sym, ap, ◌∙◌}
use Rattle.plant.specs.RangedBounds.{length_ranged}
use Rattle.plant.proofs.ranged_plant.RangedPlant.limits.Goals as goal

pub returns : goal.returns
returns g c =
    let t = c.args.self.now.table in
    ap (λ s. s.limits + 2 * s.commands) c.shape-shape.ensures ∙ sym (length_ranged (g.P.Plant.meaning c.args.self.now.below) t.counts.shape t.lows t.highs)
