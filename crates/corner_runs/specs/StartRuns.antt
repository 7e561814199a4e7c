-- The search of a start: at each corner the least limit that stops the direction Y enters.
use Rattle.std.specs.Prelude.{ℕ, suc, ◌+◌, ◌<◌, pos, ◌≤ℤ◌, ◌<ℤ◌}
use Rattle.exact.specs.Vectors.{dot}
use Rattle.plant.specs.Meaning.{Meaning}
use Rattle.plant.specs.Commands.{column, value}
use Rattle.tableau.specs.Chain.{Chain}
use Rattle.tableau.specs.Exchange.{Leaves, Replaced}
use Rattle.tableau.specs.Plants.{commands, limits, all_columns, SearchCorner}
use Rattle.tableau.specs.Search.{direction}
use Rattle.corner_words.specs.Corners.{InWidthAt}

-- No number of the tableau of a corner of the search is out of width.
abbrev pub InWidthOfSearch : (p : Meaning) → SearchCorner p → Type 0
InWidthOfSearch p = InWidthAt p (limits p + commands p) (all_columns p)

-- Limit j is the least of the plant's limits with a_j · Y > 0.
pub record LeastStopping (p : Meaning) (X : SearchCorner p) (j : ℕ) : Type 0 where
  pub known : j < limits p
  pub stops : pos 0 <ℤ dot (commands p) (column p j) (direction p X)
  pub least : (i : ℕ) → i < j → dot (commands p) (column p i) (direction p X) ≤ℤ pos 0

-- One exchange of the search, to a corner in width.
pub record StartStep (p : Meaning) (X Y : SearchCorner p) : Type 0 where
  pub enters : ℕ
  pub row : ℕ
  pub least : LeastStopping p X enters
  pub leaves : Leaves (commands p) (all_columns p) (suc (commands p)) (value p) X.U enters row
  pub across : Replaced (commands p) X.β row enters Y.β
  pub in_width : InWidthOfSearch p Y

-- So many exchanges lead from X to the last corner.
abbrev pub StartRun : (p : Meaning) → SearchCorner p → ℕ → SearchCorner p → Type 0
StartRun p = Chain (StartStep p)

-- The corner across is out of width.
pub record StartBeyondWidth (p : Meaning) (X : SearchCorner p) (j : ℕ) : Type 0 where
  pub least : LeastStopping p X j
  pub row : ℕ
  pub leaves : Leaves (commands p) (all_columns p) (suc (commands p)) (value p) X.U j row
  pub out : (Y : SearchCorner p) → Replaced (commands p) X.β row j Y.β → ¬ InWidthOfSearch p Y
