-- Runs of exchanges at a reading, and how they end.
use Rattle.std.specs.Prelude.{ℕ, suc, ◌<◌, ◌≡◌, List, ℤ, pos, ◌<ℤ◌, ◌≤ℤ◌}
use Rattle.plant.specs.Meaning.{Meaning}
use Rattle.plant.specs.Commands.{column, side, value}
use Rattle.tableau.specs.Basis.{Among}
use Rattle.tableau.specs.Points.{sides}
use Rattle.tableau.specs.Exchange as Exchange
use Rattle.tableau.specs.Corner as Corners
use Rattle.tableau.specs.Chain.{Chain}
use Rattle.tableau.specs.Plants.{commands, limits, CornerOf}
use Rattle.tableau.specs.Tableau.{entry}
use Rattle.tableau.specs.Readings.{slack_at, WillingAt}

-- Two corners have the same limits.
abbrev pub HasSameLimits : (p : Meaning) → CornerOf p → CornerOf p → Type 0
HasSameLimits p X Y = Among (commands p) X.β Y.β

-- Limit j is one of the basis of X.
abbrev pub InBasis : (p : Meaning) → CornerOf p → ℕ → Type 0
InBasis p X j = (r : ℕ) × (r < commands p) × (X.β r ≡ j)

-- The limit of row r leaves when limit j enters.
abbrev pub Leaves : (p : Meaning) → CornerOf p → ℕ → ℕ → Type 0
Leaves p X j r = Exchange.Leaves (commands p) (column p) (suc (commands p)) (value p) X.U j r

-- No row can leave when limit j enters.
abbrev pub HasNoRow : (p : Meaning) → CornerOf p → ℕ → Type 0
HasNoRow p X j = (r : ℕ) → r < commands p → entry p (column p) X.U r j ≤ℤ pos 0

-- Y has the basis across: limit j in place of the limit of row r.
abbrev pub Across : (p : Meaning) → CornerOf p → ℕ → ℕ → CornerOf p → Type 0
Across p X r j Y = Exchange.Replaced (commands p) X.β r j Y.β

-- One exchange of a run: any willing limit enters, and the limit leaves whose ratio is the least.
pub record Step (p : Meaning) (θ : List ℤ) (X Y : CornerOf p) : Type 0 where
  pub enters : ℕ
  pub row : ℕ
  pub known : enters < limits p
  pub willing : WillingAt p X θ enters
  pub leaves : Leaves p X enters row
  pub across : Across p X row enters Y

-- A run of k exchanges from X to Y.
abbrev pub Run : (p : Meaning) → List ℤ → CornerOf p → ℕ → CornerOf p → Type 0
Run p θ = Chain (Step p θ)

-- A run ends where no limit is willing, or where one with negative slack finds no row to leave.
pub data Ended (p : Meaning) (θ : List ℤ) (X : CornerOf p) : Type 0 where
  none_willing : ((j : ℕ) → j < limits p → ¬ WillingAt p X θ j) → Ended p θ X
  blocked : (j : ℕ) → j < limits p → slack_at p X θ j <ℤ pos 0 → HasNoRow p X j → Ended p θ X

-- The standing falls from X to Y: V(P), and then V(U_r) for each limit in the basis and zeros for each other, all over D.
abbrev pub Falls : (p : Meaning) → List ℤ → CornerOf p → CornerOf p → Type 0
Falls p θ = Corners.Falls (commands p) (limits p) (column p) (suc (commands p)) (value p) (suc (limits p)) (sides (side p θ))
