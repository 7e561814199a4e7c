-- A table with all counts and numbers of a plant says that plant.
use Rattle.std.proofs.Common.{◌≡◌, ℕ, ◌+◌, ◌<◌, ℤ, pos, Option, sym, ap, ◌∙◌, arith}
use Rattle.std.proofs.lemmas.List.FromFn.{fill_by_all}
use Rattle.exact.specs.Vectors.{entries}
use Rattle.words.specs.Bounds.{most_commands, most_limits, most_readings}
use Rattle.plant.specs.Meaning.{Meaning, Bounded, no_limit, shape_of, gain_of, coefficient_of, constant_of, slope_of}
use Rattle.plant.specs.Ranged.{or_zero}
use Rattle.plant.specs.Commands.{limit_at}
use Rattle.plant.proofs.Describing.{same_limit, same_meaning}
use Rattle.tableau.specs.Plants.{commands, limits}
use Rattle.plant_table.specs.Places.{row}
use Rattle.plant_table.specs.Tabled.{limit_in, meaning_of}
use Rattle.plant_table.specs.declared.table.Table.{Table}
use Rattle.plant_table.proofs.Answered.{Answered, fits, gain_answered, coefficient_answered, constant_answered, slope_answered}

module _ (p : Meaning) (B : Bounded p) (t : Table) (same : t.counts.shape ≡ shape_of p)
    (gains : (i : ℕ) → i < most_commands → entries t.gains i ≡ or_zero (gain_of p (i + 1)))
    (coefficients : (j i : ℕ) → j < most_limits → i < most_commands → entries (row t.coefficients j) i ≡ or_zero (coefficient_of p (j + 1) (i + 1)))
    (constants : (j : ℕ) → j < most_limits → entries t.constants j ≡ or_zero (constant_of p (j + 1)))
    (slopes : (j k : ℕ) → j < most_limits → k < most_readings → entries (row t.slopes j) k ≡ or_zero (slope_of p (j + 1) (k + 1))) where
  commands_same : t.counts.shape.commands ≡ commands p
  commands_same = ap (λ s. s.commands) same

  limits_same : t.counts.shape.limits ≡ limits p
  limits_same = ap (λ s. s.limits) same

  readings_same : t.counts.shape.readings ≡ p.readings
  readings_same = ap (λ s. s.readings) same

  -- An answer that is there is the number.
  answer : (z x : ℤ) (o : Option ℤ) → z ≡ or_zero o → Answered o x → x ≡ z
  answer z x o e a = sym (e ∙ ap or_zero a.there)

  limit_same : (j : ℕ) → j < limits p → limit_at p j ≡ limit_in t j
  limit_same j h =
      let F = fits p B j h in
      let inside : j < most_limits = omega (arith, B.counted.3) in
      same_limit (limit_at p j) (limit_in t j)
      (fill_by_all (entries (row t.coefficients j)) (limit_at p j).coefficients t.counts.shape.commands (pos 0) (F.wide ∙ sym commands_same)
      (λ i l. let k : i < commands p = omega (arith, commands_same) in answer _ _ _ (coefficients j i inside (omega (arith, B.counted.1))) (coefficient_answered p B j h i k)))
      (answer _ _ _ (constants j inside) (constant_answered p B j h))
      (fill_by_all (entries (row t.slopes j)) (limit_at p j).slopes t.counts.shape.readings (pos 0) (F.deep ∙ sym readings_same)
      (λ k l. let m : k < p.readings = omega (arith, readings_same) in answer _ _ _ (slopes j k inside (omega (arith, B.counted.4))) (slope_answered p B j h k m)))

  pub copied : meaning_of t ≡ p
  unfolding meaning_of
  copied = same_meaning (meaning_of t) p
      (sym (fill_by_all (entries t.gains) p.gains t.counts.shape.commands (pos 0) (sym commands_same)
      (λ i l. let k : i < commands p = omega (arith, commands_same) in answer _ _ _ (gains i (omega (arith, B.counted.1))) (gain_answered p B i k))))
      readings_same
      (sym (fill_by_all (limit_in t) p.limits t.counts.shape.limits no_limit (sym limits_same) (λ j l. limit_same j (omega (arith, limits_same)))))
