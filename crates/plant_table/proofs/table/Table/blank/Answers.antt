use Rattle.std.proofs.Common.{◌≡◌, Option, MatchOption, subst}
use Rattle.words.specs.Bounds.{Counted, most_commands, most_limits, most_readings}
use Rattle.words.specs.declared.counts.Counts.{Counts}
use Rattle.words.specs.declared.counts.Shape.{Shape}
use Rattle.plant_table.specs.Tabled.{meaning_of}
use Rattle.plant_table.proofs.Zeros.{zeros_are_values, zero_rows_are_values}
use Rattle.plant_table.proofs.table.Table.blank.Goals as goal

smallest : Shape
smallest = record { commands = 1; limits = 1; readings = 0 }

pub invariant_of-result : goal.invariant_of-result
invariant_of-result c = record {
  gain_values = zeros_are_values most_commands;
  coefficient_values = zero_rows_are_values most_limits most_commands;
  constant_values = zeros_are_values most_limits;
  slope_values = zero_rows_are_values most_limits most_readings;
}

pub returns : goal.returns
unfolding meaning_of smallest
returns c =
    let made : c.unwrap.result.shape ≡ smallest = subst (λ (o : Option Counts). MatchOption o (Counted 1 1 0 → ⊥) (λ x. x.shape ≡ smallest)) c.unwrap.ensures c.new.ensures in
    simp made
