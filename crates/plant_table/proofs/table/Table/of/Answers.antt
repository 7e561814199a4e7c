use Rattle.plant_table.proofs.Copied.{copied}
use Rattle.plant_table.proofs.table.Table.of.Goals as goal

pub returns : goal.returns
returns g c = copied (g.P.Plant.meaning c.args.plant.now) (g.met.P.Plant.bounded c.args.plant.now) _ c.counts.ensures c.gains_of.ensures.same (λ j i h. (c.coefficients_of.ensures.rows j h).same i) c.constants_of.ensures.same (λ j k h. (c.slopes_of.ensures.rows j h).same k)
