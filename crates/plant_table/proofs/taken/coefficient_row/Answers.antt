use Rattle.std.proofs.Common.{◌≡◌, ◌+◌, rules, sym, ap, ◌∙◌, arith}
use Rattle.words.specs.Bounds.{most_commands}
use Rattle.plant.specs.Meaning.{coefficient_of}
use Rattle.plant.specs.Ranged.{or_zero}
use Rattle.plant.specs.RangedBounds.{coefficient_value}
use Rattle.tableau.specs.Plants.{commands, limits}
use Rattle.plant_table.proofs.Asked.{all_same, all_values}
use Rattle.plant_table.proofs.Past.{coefficient_past, coefficient_past_limits}
use Rattle.plant_table.proofs.Zeros.{zeros, zeros_are_values}
use Rattle.plant_table.proofs.taken.coefficient_row.Goals as goal

pub returns-then-limit-limits : goal.returns-then-limit-limits
returns-then-limit-limits g c =
    let p = g.P.Plant.meaning c.args.plant.now in
    let j = c.args.limit in
    let bounded = g.met.P.Plant.bounded c.args.plant.now in
    let counted : c.args.commands ≡ commands p = c.requires.1 in
    let same = all_same most_commands c.args.commands (λ i. coefficient_of p j (i + 1)) c.numbers.result
    (λ i h l.
    let (o, posted, e) = c.numbers.ensures.answers i h l in
    let answer : o ≡ coefficient_of p j (i + 1) = search rules in
    e ∙ ap or_zero answer)
    c.numbers.ensures.zeros
    (λ i h. coefficient_past p bounded j i (omega (arith, counted, h))) in
    record {
      same = same;
      values = all_values most_commands (λ i. or_zero (coefficient_of p j (i + 1))) c.numbers.result (search rules) same (λ i. coefficient_value p bounded j (i + 1));
    }

pub returns-else-limit-limits : goal.returns-else-limit-limits
returns-else-limit-limits g c =
    let p = g.P.Plant.meaning c.args.plant.now in
    let counted : c.args.limits ≡ limits p = c.requires.0 in
    record {
      same = λ i h. zeros most_commands i ∙ sym (ap or_zero (coefficient_past_limits p c.args.limit (i + 1) (omega (arith, counted, c.if-limit-limits.false))));
      values = zeros_are_values most_commands;
    }
