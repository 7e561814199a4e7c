-- The search for a first corner, from the basis of all artificial limits.
use Rattle.std.specs.Prelude.{ℕ, suc, ◌+◌, ◌<◌, ◌≡◌, ℤ, pos, ◌<ℤ◌, ◌≤ℤ◌}
use Rattle.exact.specs.Vectors.{dot}
use Rattle.exact.specs.Lists.{Before}
use Rattle.plant.specs.Meaning.{Meaning}
use Rattle.plant.specs.Commands.{column, value}
use Rattle.tableau.specs.Points.{point}
use Rattle.tableau.specs.Exchange.{Leaves, Replaced}
use Rattle.tableau.specs.Artificial.{is_artificial}
use Rattle.tableau.specs.Chain.{Chain}
use Rattle.tableau.specs.Plants.{commands, limits, all_columns, SearchCorner}

-- The first basis: row r belongs to the artificial limit n + r.
abbrev pub AllArtificial : (p : Meaning) → SearchCorner p → Type 0
AllArtificial p X = (r : ℕ) → r < commands p → X.β r ≡ limits p + r

-- Y: the sum of U_r over the rows of artificial limits.
abbrev pub direction : (p : Meaning) → SearchCorner p → ℕ → ℤ
direction p X = point (commands p) X.β X.U (is_artificial (limits p))

-- One exchange of the search: any true limit j with a_j · Y > 0 enters.
pub record SearchStep (p : Meaning) (X Y : SearchCorner p) : Type 0 where
  pub enters : ℕ
  pub row : ℕ
  pub true_limit : enters < limits p
  pub stops : pos 0 <ℤ dot (commands p) (column p enters) (direction p X)
  pub leaves : Leaves (commands p) (all_columns p) (suc (commands p)) (value p) X.U enters row
  pub across : Replaced (commands p) X.β row enters Y.β

-- A search of so many exchanges.
abbrev pub SearchRun : (p : Meaning) → SearchCorner p → ℕ → SearchCorner p → Type 0
SearchRun p = Chain (SearchStep p)

-- The search ends where no true limit has a_j · Y > 0.
abbrev pub SearchEnded : (p : Meaning) → SearchCorner p → Type 0
SearchEnded p X = (j : ℕ) → j < limits p → dot (commands p) (column p j) (direction p X) ≤ℤ pos 0

-- V(Y) / D falls from X to Z.
abbrev pub DirectionFalls : (p : Meaning) → SearchCorner p → SearchCorner p → Type 0
DirectionFalls p X Z = Before (suc (commands p)) (value p (direction p Z)) Z.D (value p (direction p X)) X.D
