use Rattle.plant_table.proofs.Lookups.{kept_shape}
use Rattle.plant_table.proofs.table.Table.counts.Goals as goal

pub returns : goal.returns
returns c = kept_shape c.args.self.now
