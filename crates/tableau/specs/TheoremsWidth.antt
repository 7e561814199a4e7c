-- The width of a tableau with artificial limits.
use Rattle.std.specs.Prelude.{ℕ, ◌+◌, ℤ}
use Rattle.plant.specs.Meaning.{Meaning}
use Rattle.tableau.specs.Plants.{commands, limits, all_columns}
use Rattle.tableau.specs.Tableau.{TableauInWidth}

-- A tableau that is in width for the plant's limits is so for the artificial ones too.
abbrev pub ArtificialLimitsAreInWidth : Type 0
ArtificialLimitsAreInWidth = (p : Meaning) (β : ℕ → ℕ) (D : ℤ) (U : ℕ → ℕ → ℤ) → TableauInWidth p (limits p) (all_columns p) β D U → TableauInWidth p (limits p + commands p) (all_columns p) β D U
