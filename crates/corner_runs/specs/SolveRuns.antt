-- The run of a solve: at each corner the least willing limit enters.
use Rattle.std.specs.Prelude.{◌≡◌, ℕ, ◌+◌, ◌<◌, List, [], ◌∷◌, ◌++◌, ℤ}
use Rattle.plant.specs.Meaning.{Meaning}
use Rattle.plant.specs.Commands.{column}
use Rattle.tableau.specs.Plants.{limits, CornerOf}
use Rattle.tableau.specs.Readings.{WillingAt}
use Rattle.tableau.specs.Runs.{Leaves, HasNoRow, Across}
use Rattle.corner_words.specs.Corners.{InWidthAt}
use Rattle.corner_runs.specs.declared.exchanges.Exchange.{Exchange}

-- No number of the tableau of a corner of the plant is out of width.
abbrev pub InWidthOf : (p : Meaning) → CornerOf p → Type 0
InWidthOf p = InWidthAt p (limits p) (column p)

-- Limit j is the least of the limits that are willing at X.
pub record LeastWilling (p : Meaning) (θ : List ℤ) (X : CornerOf p) (j : ℕ) : Type 0 where
  pub known : j < limits p
  pub willing : WillingAt p X θ j
  pub least : (i : ℕ) → i < j → ¬ WillingAt p X θ i

-- One exchange of the run: the least willing limit enters, the limit with the least ratio leaves, and the corner across is in width.
pub record SolveStep (p : Meaning) (θ : List ℤ) (X Y : CornerOf p) (e : Exchange) : Type 0 where
  pub enters : ℕ
  pub row : ℕ
  pub least : LeastWilling p θ X enters
  pub leaves : Leaves p X enters row
  pub across : Across p X row enters Y
  pub in_width : InWidthOf p Y
  pub limit_in : e.entering ≡ enters + 1
  pub limit_out : e.leaving ≡ X.β row + 1

-- The run from X to Y by these exchanges.
pub data SolveRun (p : Meaning) (θ : List ℤ) (X : CornerOf p) : List Exchange → CornerOf p → Type 0 where
  stands : SolveRun p θ X [] X
  goes : {es fs : List Exchange} {Y Z : CornerOf p} (e : Exchange) → SolveRun p θ X es Y → SolveStep p θ Y Z e → fs ≡ es ++ e ∷ [] → SolveRun p θ X fs Z

-- The run ends where no limit is willing,
abbrev pub Settled : (p : Meaning) → List ℤ → CornerOf p → Type 0
Settled p θ X = (j : ℕ) → j < limits p → ¬ WillingAt p X θ j

-- or where the least willing limit finds no row to leave,
pub record WithoutRow (p : Meaning) (θ : List ℤ) (X : CornerOf p) (j : ℕ) : Type 0 where
  pub least : LeastWilling p θ X j
  pub no_row : HasNoRow p X j

-- or where the corner across is out of width.
pub record BeyondWidth (p : Meaning) (θ : List ℤ) (X : CornerOf p) (j : ℕ) : Type 0 where
  pub least : LeastWilling p θ X j
  pub row : ℕ
  pub leaves : Leaves p X j row
  pub out : (Y : CornerOf p) → Across p X row j Y → ¬ InWidthOf p Y
