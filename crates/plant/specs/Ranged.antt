-- The meaning of a ranged plant over any plant below, by the counts in its own table: a number absent below is 0.
use Rattle.std.specs.Prelude.{◌≡◌, ℕ, ◌+◌, ◌*◌, ◌<◌, ◌≤◌, ◌⊎◌, List, ◌++◌, ℤ, pos, Some, None, Ok, Err, Option, Result, slice_index_or}
use Rattle.std.specs.Option.{unwrap_or}
use Rattle.words.specs.declared.counts.Shape.{Shape}
use Rattle.words.specs.declared.refusal.Refusal.{Refusal}
use Rattle.plant.specs.Tables.{table}
use Rattle.plant.specs.Meaning.{Limit, Meaning, shape_of, gain_of, coefficient_of, constant_of, slope_of}
use Rattle.plant.specs.Ranges.{range_limits, with_ranges, RangesFit, RangeFaulty}
use Rattle.plant.specs.declared.range_table.RangeTable.{RangeTable}
use Rattle.plant.specs.declared.row.Row.{Row}
use Rattle.plant.specs.declared.row.Row.TheVariants.{Kept, AtMost, AtLeast}

-- A number that may be absent.
abbrev pub or_zero : Option ℤ → ℤ
or_zero o = unwrap_or o (pos 0)

module _ (p : Meaning) (c : Shape) where
  -- The limit below at a place from 0.
  abbrev pub kept_limit : ℕ → Limit
  kept_limit j = record {
    coefficients = table c.commands (λ i. or_zero (coefficient_of p (j + 1) (i + 1)));
    constant = or_zero (constant_of p (j + 1));
    slopes = table c.readings (λ k. or_zero (slope_of p (j + 1) (k + 1)));
  }

  abbrev pub ranged : List ℤ → List ℤ → Meaning
  ranged lows highs = record {
    gains = table c.commands (λ i. or_zero (gain_of p (i + 1)));
    readings = c.readings;
    limits = table c.limits kept_limit ++ range_limits c lows highs;
  }

-- A ranged plant with this table means so over a plant that means p.
abbrev pub ranged_by : RangeTable → Meaning → Meaning
ranged_by t p = ranged p t.counts.shape t.lows t.highs

-- Which limit stands at place j from 1, in a plant whose table has these counts.
abbrev pub RowAt : Shape → ℕ → Option Row → Type 0
RowAt c j None = (j ≡ 0) ⊎ (c.limits + 2 * c.commands < j)
RowAt c j (Some Kept) = (1 ≤ j) × (j ≤ c.limits)
RowAt c j (Some (AtMost i)) = (i < c.commands) × (j ≡ c.limits + i + 1)
RowAt c j (Some (AtLeast i)) = (i < c.commands) × (j ≡ c.limits + c.commands + i + 1)

-- What range answers over a plant that means p: a table with which the ranged plant over it is the plant with these ranges, no
-- number of it absent below; or the refusal that the lows and highs earn.
abbrev pub RangeAnswer : Meaning → List ℤ → List ℤ → Result RangeTable Refusal → Type 0
RangeAnswer p lows highs (Ok t) = RangesFit lows highs (shape_of p) × (ranged_by t p ≡ with_ranges p lows highs)
RangeAnswer p lows highs (Err e) = RangeFaulty lows highs (shape_of p) e

-- The table that lows and highs make over a plant with these counts.
pub record Tabled (c : Shape) (lows highs : List ℤ) (t : RangeTable) : Type 0 where
  pub fits : RangesFit lows highs c
  pub shape : t.counts.shape ≡ c
  pub same_lows : (i : ℕ) → i < c.commands → slice_index_or t.lows i (pos 0) ≡ slice_index_or lows i (pos 0)
  pub same_highs : (i : ℕ) → i < c.commands → slice_index_or t.highs i (pos 0) ≡ slice_index_or highs i (pos 0)
