-- The counts and numbers of the plant that a table says.
use Rattle.std.proofs.Common.{◌≡◌, ℕ, suc, ◌<◌, get_or, Some, sym, refl, ap, ◌∙◌, arith}
use Rattle.std.proofs.lemmas.List.FromFn.{get_or-map-range_with_len}
use Rattle.std.specs.List.{slice_get}
use Rattle.exact.specs.Vectors.{entries}
use Rattle.words.proofs.Places.{same_shape}
use Rattle.words.specs.Bounds.{Value, most_commands, most_limits, most_readings}
use Rattle.plant.specs.Meaning.{Limit, Values, Fits, Bounded, no_limit, shape_of}
use Rattle.plant.specs.Commands.{limit_at, column}
use Rattle.plant.specs.Tables.{table}
use Rattle.plant.specs.TableLaws.{length_table, each_of_table}
use Rattle.tableau.specs.Plants.{commands, limits, rate}
use Rattle.plant_table.specs.Places.{row}
use Rattle.plant_table.specs.Tabled.{limit_in, meaning_of}
use Rattle.plant_table.specs.declared.table.Table.{Table}

-- What stands at a place of a table.
pub table_at : {X : Type 0} (n : ℕ) (f : ℕ → X) (i : ℕ) (d : X) → i < n → get_or (table n f) i d ≡ f i
table_at n f i d h = get_or-map-range_with_len f 0 n i i d h (omega arith)

module _ (t : Table) where
  pub kept_commands : commands (meaning_of t) ≡ t.counts.shape.commands
  unfolding meaning_of
  kept_commands = length_table t.counts.shape.commands (entries t.gains)

  pub kept_limits : limits (meaning_of t) ≡ t.counts.shape.limits
  unfolding meaning_of
  kept_limits = length_table t.counts.shape.limits (limit_in t)

  pub kept_readings : (meaning_of t).readings ≡ t.counts.shape.readings
  unfolding meaning_of
  kept_readings = refl

  pub kept_shape : t.counts.shape ≡ shape_of (meaning_of t)
  kept_shape = same_shape t.counts.shape (shape_of (meaning_of t)) (sym kept_commands, sym kept_limits, sym kept_readings)

  -- Places inside the counts are places of the arrays.
  pub command_inside : (i : ℕ) → i < commands (meaning_of t) → i < most_commands
  command_inside i h = omega (arith, kept_commands, t.counts.fit.1)

  pub limit_inside : (j : ℕ) → j < limits (meaning_of t) → j < most_limits
  limit_inside j h = omega (arith, kept_limits, t.counts.fit.3)

  pub reading_inside : (k : ℕ) → k < (meaning_of t).readings → k < most_readings
  reading_inside k h = omega (arith, kept_readings, t.counts.fit.4)

  pub kept_gain : (i : ℕ) → i < commands (meaning_of t) → entries (meaning_of t).gains i ≡ entries t.gains i
  unfolding meaning_of
  kept_gain i h = table_at t.counts.shape.commands (entries t.gains) i _ (rw kept_commands at h)

  kept_limit : (j : ℕ) → j < limits (meaning_of t) → limit_at (meaning_of t) j ≡ limit_in t j
  unfolding meaning_of
  kept_limit j h = table_at t.counts.shape.limits (limit_in t) j no_limit (rw kept_limits at h)

  pub kept_coefficient : (j i : ℕ) → j < limits (meaning_of t) → i < commands (meaning_of t) → column (meaning_of t) j i ≡ entries (row t.coefficients j) i
  kept_coefficient j i h l =
      ap (λ (x : Limit). entries x.coefficients i) (kept_limit j h) ∙ table_at t.counts.shape.commands (entries (row t.coefficients j)) i _ (rw kept_commands at l)

  pub kept_constant : (j : ℕ) → j < limits (meaning_of t) → rate (meaning_of t) 0 j ≡ entries t.constants j
  kept_constant j h = ap (λ (x : Limit). x.constant) (kept_limit j h)

  pub kept_slope : (k j : ℕ) → k < (meaning_of t).readings → j < limits (meaning_of t) → rate (meaning_of t) (suc k) j ≡ entries (row t.slopes j) k
  kept_slope k j h l =
      ap (λ (x : Limit). entries x.slopes k) (kept_limit j l) ∙ table_at t.counts.shape.readings (entries (row t.slopes j)) k _ (rw kept_readings at h)

  limit_fits : (j : ℕ) → Fits t.counts.shape (limit_in t j)
  limit_fits j = record {
    wide = length_table t.counts.shape.commands _;
    deep = length_table t.counts.shape.readings _;
    coefficients = record { each = each_of_table Value t.counts.shape.commands _ (λ i h. t.coefficient_values j i) };
    constant = t.constant_values j;
    slopes = record { each = each_of_table Value t.counts.shape.readings _ (λ k h. t.slope_values j k) };
  }

  all_fit : (j : ℕ) (l : Limit) → slice_get (meaning_of t).limits j ≡ Some l → Fits t.counts.shape l
  unfolding meaning_of
  all_fit = each_of_table (Fits t.counts.shape) t.counts.shape.limits (limit_in t) (λ j h. limit_fits j)

  gains_fit : Values (meaning_of t).gains
  unfolding meaning_of
  gains_fit = record { each = each_of_table Value t.counts.shape.commands (entries t.gains) (λ i h. t.gain_values i) }

  -- The plant that a table says is in bounds.
  pub table_bounded : Bounded (meaning_of t)
  table_bounded = record {
    counted = rw (kept_commands, kept_limits, kept_readings) t.counts.fit;
    gains = gains_fit;
    limits = λ j l e. rw (← kept_shape) (all_fit j l e);
  }
