use Rattle.std.proofs.Common.{ℕ, ◌+◌, List, [], ℤ, rules}
use Rattle.words.specs.Bounds.{most_readings, most_limits}
use Rattle.plant.specs.Meaning.{slope_of}
use Rattle.plant.specs.Ranged.{or_zero}
use Rattle.plant_table.specs.Places.{Numbers}
use Rattle.plant_table.proofs.Asked.{each, all_rows}
use Rattle.plant_table.proofs.taken.slopes_of.Goals as goal

pub returns : goal.returns
returns g c =
    let p = g.P.Plant.meaning c.args.plant.now in
    let Row : ℕ → List ℤ → Type 0 = λ j. Numbers most_readings (λ i. or_zero (slope_of p (j + 1) (i + 1))) in
    let rows = each _ _ Row most_limits [] c.from_fn.result (λ j y q h k. search rules) c.from_fn.ensures.items in
    record { rows = rows; values = all_rows most_limits c.from_fn.result c.from_fn.ensures.items.long (λ j h. (rows j h).values) }
