use Rattle.std.proofs.Common.{◌≡◌, ◌+◌, rules, ap, ◌∙◌, arith}
use Rattle.words.specs.Bounds.{most_limits}
use Rattle.plant.specs.Meaning.{constant_of}
use Rattle.plant.specs.Ranged.{or_zero}
use Rattle.plant.specs.RangedBounds.{constant_value}
use Rattle.tableau.specs.Plants.{limits}
use Rattle.plant_table.proofs.Asked.{all_same, all_values}
use Rattle.plant_table.proofs.Past.{constant_past}
use Rattle.plant_table.proofs.taken.constants_of.Goals as goal

pub returns : goal.returns
returns g c =
    let p = g.P.Plant.meaning c.args.plant.now in
    let n = c.limits-limits.result in
    let counted : n ≡ limits p = c.limits-limits.ensures in
    let same = all_same most_limits n (λ i. constant_of p (i + 1)) c.numbers.result
    (λ i h l.
    let (o, posted, e) = c.numbers.ensures.answers i h l in
    let answer : o ≡ constant_of p (i + 1) = search rules in
    e ∙ ap or_zero answer)
    c.numbers.ensures.zeros
    (λ i h. constant_past p i (omega (arith, counted, h))) in
    record {
      same = same;
      values = all_values most_limits (λ i. or_zero (constant_of p (i + 1))) c.numbers.result (search rules) same (λ i. constant_value p (g.met.P.Plant.bounded c.args.plant.now) (i + 1));
    }
