use Rattle.plant.proofs.Ranging.{range_answers}
use Rattle.plant.proofs.range.range.Goals as goal

pub returns : goal.returns
returns g c =
    let p = g.P.Plant.meaning c.args.below.now in
    range_answers p (g.met.P.Plant.bounded c.args.below.now) _ c.args.lows.now c.args.highs.now c.judge.result
    c.counts.ensures c.judge.ensures
