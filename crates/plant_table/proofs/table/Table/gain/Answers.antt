use Rattle.std.proofs.Common.{arith}
use Rattle.exact.specs.Vectors.{entries}
use Rattle.plant_table.proofs.Lookups.{kept_gain, command_inside}
use Rattle.plant_table.proofs.Widened.{widened, widened_value}
use Rattle.plant_table.proofs.table.Table.gain.Goals as goal

pub offset_bounds-self-command : goal.offset_bounds-self-command
offset_bounds-self-command c = omega (arith, command_inside c.args.self.now c.args.command c.requires)

pub bounds-self-command : goal.bounds-self-command
bounds-self-command c = omega (arith, command_inside c.args.self.now c.args.command c.requires)

pub returns : goal.returns
returns c =
    let t = c.args.self.now in
    let z = entries t.gains c.args.command in
    record {
      number = widened z c.from.result (t.gain_values c.args.command) c.from.ensures _ (kept_gain t c.args.command c.requires);
      value = widened_value z c.from.result (t.gain_values c.args.command) c.from.ensures;
    }
