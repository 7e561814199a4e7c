use Rattle.std.proofs.Common.{arith}
use Rattle.exact.specs.Vectors.{entries}
use Rattle.plant_table.specs.Places.{row}
use Rattle.plant_table.proofs.Lookups.{kept_coefficient, limit_inside, command_inside}
use Rattle.plant_table.proofs.Widened.{widened, widened_value}
use Rattle.plant_table.proofs.table.Table.coefficient.Goals as goal

pub offset_bounds-self-limit : goal.offset_bounds-self-limit
offset_bounds-self-limit c = omega (arith, limit_inside c.args.self.now c.args.limit c.requires.limit)

pub offset_bounds-self-command : goal.offset_bounds-self-command
offset_bounds-self-command c = omega (arith, command_inside c.args.self.now c.args.command c.requires.command)

pub bounds-self-limit : goal.bounds-self-limit
bounds-self-limit c = limit_inside c.args.self.now c.args.limit c.requires.limit

pub bounds-self-command : goal.bounds-self-command
bounds-self-command c = command_inside c.args.self.now c.args.command c.requires.command

pub returns : goal.returns
returns c =
    let t = c.args.self.now in
    let z = entries (row t.coefficients c.args.limit) c.args.command in
    record {
      number = widened z c.from.result (t.coefficient_values c.args.limit c.args.command) c.from.ensures _ (kept_coefficient t c.args.limit c.args.command c.requires.limit c.requires.command);
      value = widened_value z c.from.result (t.coefficient_values c.args.limit c.args.command) c.from.ensures;
    }
