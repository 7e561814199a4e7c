use Rattle.std.proofs.Common.{◌≡◌, ◌+◌, rules, ap, ◌∙◌, arith}
use Rattle.words.specs.Bounds.{most_commands}
use Rattle.plant.specs.Meaning.{gain_of}
use Rattle.plant.specs.Ranged.{or_zero}
use Rattle.plant.specs.RangedBounds.{gain_value}
use Rattle.tableau.specs.Plants.{commands}
use Rattle.plant_table.proofs.Asked.{all_same, all_values}
use Rattle.plant_table.proofs.Past.{gain_past}
use Rattle.plant_table.proofs.taken.gains_of.Goals as goal

pub returns : goal.returns
returns g c =
    let p = g.P.Plant.meaning c.args.plant.now in
    let n = c.commands-commands.result in
    let counted : n ≡ commands p = c.commands-commands.ensures in
    let same = all_same most_commands n (λ i. gain_of p (i + 1)) c.numbers.result
    (λ i h l.
    let (o, posted, e) = c.numbers.ensures.answers i h l in
    let answer : o ≡ gain_of p (i + 1) = search rules in
    e ∙ ap or_zero answer)
    c.numbers.ensures.zeros
    (λ i h. gain_past p i (omega (arith, counted, h))) in
    record {
      same = same;
      values = all_values most_commands (λ i. or_zero (gain_of p (i + 1))) c.numbers.result (search rules) same (λ i. gain_value p (g.met.P.Plant.bounded c.args.plant.now) (i + 1));
    }
