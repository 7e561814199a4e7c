-- The weights of a limit, on a tray.
use Rattle.std.specs.Prelude.{◌≡◌, ℕ, ◌+◌, ◌<◌, ◌≤◌, List, length, ℤ, pos}
use Rattle.exact.specs.Vectors.{entries}
use Rattle.plant.specs.Commands.{column}
use Rattle.plant.specs.Meaning.{Meaning, shape_of}
use Rattle.tableau.specs.Certificate.{Weights}
use Rattle.tableau.specs.Plants.{limits, CornerOf}
use Rattle.tableau.specs.Runs.{InBasis}
use Rattle.tableau_words.specs.Held.{Held}
use Rattle.words.specs.declared.counts.Shape.{Shape}
use Rattle.trays.specs.Trays.{tray_size}

-- The weights of limit j at a corner, each at the place of its limit, and zeros.
pub record WeightsList (p : Meaning) (X : CornerOf p) (j : ℕ) (xs : List ℤ) : Type 0 where
  pub long : length xs ≡ tray_size
  pub weights : Weights p X j (entries xs)
  pub rest : (l : ℕ) → limits p ≤ l → entries xs l ≡ pos 0

-- Every row of the words belongs to a limit of the plant.
abbrev pub RowsKnown : Shape → List ℤ → Type 0
RowsKnown c ws = (r : ℕ) → r < c.commands → (l : ℕ) × (l < c.limits) × (entries ws (1 + r) ≡ pos l)

-- Of any corner that the words hold, the weights of limit j, which is not in its basis.
abbrev pub WeightsAnswer : Shape → ℕ → List ℤ → List ℤ → Type 0
WeightsAnswer c j ws xs = (p : Meaning) (X : CornerOf p) → c ≡ shape_of p → Held p (column p) X.β X.D X.U ws → ¬ InBasis p X j → WeightsList p X j xs
