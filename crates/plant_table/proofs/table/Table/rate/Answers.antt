use Rattle.std.proofs.Common.{◌≡◌, suc, ◌-◌, ap, ◌∙◌, arith}
use Rattle.exact.specs.Vectors.{entries}
use Rattle.tableau.specs.Plants.{rate}
use Rattle.plant_table.specs.Places.{row}
use Rattle.plant_table.specs.Tabled.{meaning_of}
use Rattle.plant_table.proofs.Lookups.{kept_constant, kept_slope, limit_inside, reading_inside}
use Rattle.plant_table.proofs.Widened.{widened, widened_value}
use Rattle.plant_table.proofs.table.Table.rate.Goals as goal

pub offset_bounds-self-limit : goal.offset_bounds-self-limit
offset_bounds-self-limit c = omega (arith, limit_inside c.args.self.now c.args.limit c.requires.limit)

pub bounds-self-limit : goal.bounds-self-limit
bounds-self-limit c = limit_inside c.args.self.now c.args.limit c.requires.limit

pub offset_bounds-self-limit-else-k-eq0 : goal.offset_bounds-self-limit-else-k-eq0
offset_bounds-self-limit-else-k-eq0 c = omega (arith, limit_inside c.args.self.now c.args.limit c.requires.limit)

pub offset_bounds-self-k : goal.offset_bounds-self-k
offset_bounds-self-k c = omega (arith, reading_inside c.args.self.now (c.args.k - 1) (omega arith))

pub bounds-self-limit-else-k-eq0 : goal.bounds-self-limit-else-k-eq0
bounds-self-limit-else-k-eq0 c = limit_inside c.args.self.now c.args.limit c.requires.limit

pub bounds-self-k : goal.bounds-self-k
bounds-self-k c = reading_inside c.args.self.now (c.args.k - 1) (omega arith)

pub returns-then-k-eq0 : goal.returns-then-k-eq0
returns-then-k-eq0 c =
    let t = c.args.self.now in
    let j = c.args.limit in
    let z = entries t.constants j in
    let none = ap (λ k. rate (meaning_of t) k j) c.if-k-eq0.true in
    record {
      number = widened z c.from.result (t.constant_values j) c.from.ensures _ (none ∙ kept_constant t j c.requires.limit);
      value = widened_value z c.from.result (t.constant_values j) c.from.ensures;
    }

pub returns-else-k-eq0 : goal.returns-else-k-eq0
returns-else-k-eq0 c =
    let t = c.args.self.now in
    let j = c.args.limit in
    let k = c.args.k - 1 in
    let z = entries (row t.slopes j) k in
    let some : c.args.k ≡ suc k = omega arith in
    record {
      number = widened z c.from-else-k-eq0.result (t.slope_values j k) c.from-else-k-eq0.ensures _ (ap (λ k. rate (meaning_of t) k j) some ∙ kept_slope t k j (omega arith) c.requires.limit);
      value = widened_value z c.from-else-k-eq0.result (t.slope_values j k) c.from-else-k-eq0.ensures;
    }
