use Rattle.life.proofs.Carrying.{sense}
use Rattle.life.proofs.live.makes_sense.Goals as goal

pub returns-in-Start : goal.returns-in-Start
returns-in-Start g c = sense (g.S.Shelf.plants c.args.shelf.now) c.in-Start.place _ c.has.result c.has.ensures c.args.order c.in-Start.is
