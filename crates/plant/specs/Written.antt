-- The meaning of a written-out plant, whatever words it is made of: a number that the words lack or that is out of bounds is 0.
use Rattle.std.specs.Prelude.{ℕ, ◌+◌, cond, List, ℤ, pos, slice_index}
use Rattle.words.specs.Bounds.{in_bounds}
use Rattle.words.specs.Words.{payload}
use Rattle.words.specs.Layout.{limit_place}
use Rattle.words.specs.declared.counts.Shape.{Shape}
use Rattle.plant.specs.Tables.{table}
use Rattle.plant.specs.Meaning.{Limit, Meaning}

abbrev pub in_bounds_or_zero : ℤ → ℤ
in_bounds_or_zero z = cond (in_bounds z) z (pos 0)

module _ (ws : List ℕ) where
  -- The number at place k.
  abbrev pub number_at : ℕ → ℤ
  number_at k = in_bounds_or_zero (payload (slice_index ws k))

  -- The limit whose words begin at place k.
  abbrev pub said_limit : Shape → ℕ → Limit
  said_limit c k = record {
    coefficients = table c.commands (λ i. number_at (k + i));
    constant = number_at (k + c.commands);
    slopes = table c.readings (λ i. number_at (k + (c.commands + 1) + i));
  }

  abbrev pub said : Shape → Meaning
  said c = record {
    gains = table c.commands (λ i. number_at (1 + i));
    readings = c.readings;
    limits = table c.limits (λ j. said_limit c (limit_place c j));
  }
