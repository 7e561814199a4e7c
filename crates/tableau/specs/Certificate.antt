-- Weights that show that no command keeps every limit.
use Rattle.std.specs.Prelude.{ℕ, ◌<◌, ◌≡◌, List, ℤ, pos, ◌*ℤ◌, neg_ℤ, ◌<ℤ◌, ◌≤ℤ◌}
use Rattle.exact.specs.Vectors.{sum}
use Rattle.plant.specs.Meaning.{Meaning}
use Rattle.plant.specs.Commands.{column, side}
use Rattle.tableau.specs.Plants.{commands, limits, CornerOf}
use Rattle.tableau.specs.Tableau.{entry}
use Rattle.tableau.specs.Runs.{InBasis}

-- None of the weights is negative, weighted so the columns add up to 0, and the sides to less than 0.
pub record Certificate (p : Meaning) (θ : List ℤ) (y : ℕ → ℤ) : Type 0 where
  pub nonneg : (l : ℕ) → l < limits p → pos 0 ≤ℤ y l
  pub columns : (c : ℕ) → c < commands p → sum (limits p) (λ l. y l *ℤ column p l c) ≡ pos 0
  pub sides : sum (limits p) (λ l. y l *ℤ side p θ l) <ℤ pos 0

-- The weights of limit j at a corner: D at j, -T_rj at the limit of row r, 0 at all others.
pub record Weights (p : Meaning) (X : CornerOf p) (j : ℕ) (y : ℕ → ℤ) : Type 0 where
  pub own : y j ≡ X.D
  pub rows : (r : ℕ) → r < commands p → y (X.β r) ≡ neg_ℤ (entry p (column p) X.U r j)
  pub others : (l : ℕ) → l < limits p → ¬ (l ≡ j) → ¬ InBasis p X l → y l ≡ pos 0
