use Rattle.std.proofs.Common.{◌≡◌, ◌+◌, rules, sym, ap, ◌∙◌, arith}
use Rattle.words.specs.Bounds.{most_readings}
use Rattle.plant.specs.Meaning.{slope_of}
use Rattle.plant.specs.Ranged.{or_zero}
use Rattle.plant.specs.RangedBounds.{slope_value}
use Rattle.tableau.specs.Plants.{limits}
use Rattle.plant_table.proofs.Asked.{all_same, all_values}
use Rattle.plant_table.proofs.Past.{slope_past, slope_past_limits}
use Rattle.plant_table.proofs.Zeros.{zeros, zeros_are_values}
use Rattle.plant_table.proofs.taken.slope_row.Goals as goal

pub returns-then-limit-limits : goal.returns-then-limit-limits
returns-then-limit-limits g c =
    let p = g.P.Plant.meaning c.args.plant.now in
    let j = c.args.limit in
    let bounded = g.met.P.Plant.bounded c.args.plant.now in
    let counted : c.args.readings ≡ p.readings = c.requires.1 in
    let same = all_same most_readings c.args.readings (λ i. slope_of p j (i + 1)) c.numbers.result
    (λ i h l.
    let (o, posted, e) = c.numbers.ensures.answers i h l in
    let answer : o ≡ slope_of p j (i + 1) = search rules in
    e ∙ ap or_zero answer)
    c.numbers.ensures.zeros
    (λ i h. slope_past p bounded j i (omega (arith, counted, h))) in
    record {
      same = same;
      values = all_values most_readings (λ i. or_zero (slope_of p j (i + 1))) c.numbers.result (search rules) same (λ i. slope_value p bounded j (i + 1));
    }

pub returns-else-limit-limits : goal.returns-else-limit-limits
returns-else-limit-limits g c =
    let p = g.P.Plant.meaning c.args.plant.now in
    let counted : c.args.limits ≡ limits p = c.requires.0 in
    record {
      same = λ i h. zeros most_readings i ∙ sym (ap or_zero (slope_past_limits p c.args.limit (i + 1) (omega (arith, counted, c.if-limit-limits.false))));
      values = zeros_are_values most_readings;
    }
