use Rattle.std.proofs.Common.{sym, ◌∙◌, subst}
use Rattle.words.specs.Layout.{InBounds}
use Rattle.plant_table.proofs.Lookups.{kept_shape}
use Rattle.plant_table.proofs.table.Table.shape.Goals as goal

pub returns : goal.returns
returns c = record {
  counts = c.shape.ensures ∙ kept_shape c.args.self.now;
  bounds = subst InBounds (sym c.shape.ensures) c.args.self.now.counts.fit;
}
