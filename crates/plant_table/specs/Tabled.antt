-- The plant that a table says.
use Rattle.std.specs.Prelude.{ℕ, [], ◌∷◌, pos}
use Rattle.exact.specs.Vectors.{entries}
use Rattle.plant.specs.Meaning.{Limit, Meaning}
use Rattle.plant.specs.Tables.{table}
use Rattle.plant_table.specs.Places.{row}
use Rattle.plant_table.specs.declared.table.Table.{Table}

-- The limit at a place from 0.
abbrev pub limit_in : Table → ℕ → Limit
limit_in t j = record {
  coefficients = table t.counts.shape.commands (entries (row t.coefficients j));
  constant = entries t.constants j;
  slopes = table t.counts.shape.readings (entries (row t.slopes j));
}

-- All its counts and numbers.
unfoldable pub meaning_of : Table → Meaning
meaning_of t = record {
  gains = table t.counts.shape.commands (entries t.gains);
  readings = t.counts.shape.readings;
  limits = table t.counts.shape.limits (limit_in t);
}

-- One command, one limit, no readings, and every number 0.
abbrev pub blank : Meaning
blank = record {
  gains = pos 0 ∷ [];
  readings = 0;
  limits = record { coefficients = pos 0 ∷ []; constant = pos 0; slopes = [] } ∷ [];
}
