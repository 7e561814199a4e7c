-- A basis has one tableau. The columns a may be a plant's own, or those with the artificial limits behind them.
use Rattle.std.specs.Prelude.{ℕ, ◌<◌, ◌≡◌, ℤ}
use Rattle.plant.specs.Meaning.{Meaning}
use Rattle.tableau.specs.Basis.{Basis, Inverse, Among, Ascending, Smallest}
use Rattle.tableau.specs.Tableau.{Tableau}
use Rattle.tableau.specs.Plants.{commands, CornerOf}
use Rattle.tableau.specs.Runs.{HasSameLimits}

-- Independent columns have a tableau.
abbrev pub BasisHasATableau : Type 0
BasisHasATableau = (m n : ℕ) (a : ℕ → ℕ → ℤ) (β : ℕ → ℕ) → Basis m n a β → (D : ℤ) × (U : ℕ → ℕ → ℤ) × Tableau m a β D U

-- Limits that have a tableau are a basis.
abbrev pub TableauMeansABasis : Type 0
TableauMeansABasis = (m n : ℕ) (a : ℕ → ℕ → ℤ) (β : ℕ → ℕ) (D : ℤ) (U : ℕ → ℕ → ℤ) → ((r : ℕ) → r < m → β r < n) → Tableau m a β D U → Basis m n a β

-- Two tableaus of the same limits, told in any order, have one denominator, and one row for each limit.
abbrev pub OneTableau : Type 0
OneTableau = (m : ℕ) (a : ℕ → ℕ → ℤ) (β : ℕ → ℕ) (D : ℤ) (U : ℕ → ℕ → ℤ) (β' : ℕ → ℕ) (D' : ℤ) (U' : ℕ → ℕ → ℤ) → Tableau m a β D U → Tableau m a β' D' U' → Among m β β'
    → (D ≡ D') × ((r s : ℕ) → r < m → s < m → β' s ≡ β r → (c : ℕ) → c < m → U' s c ≡ U r c)

-- Its denominator is the least number from 1 up that makes the inverse whole.
abbrev pub DenominatorIsLeast : Type 0
DenominatorIsLeast = (m : ℕ) (a : ℕ → ℕ → ℤ) (β : ℕ → ℕ) (D : ℤ) (U : ℕ → ℕ → ℤ) → Tableau m a β D U → Smallest m a β D

-- And an inverse over the least denominator is in lowest terms.
abbrev pub LeastDenominatorIsATableau : Type 0
LeastDenominatorIsATableau = (m : ℕ) (a : ℕ → ℕ → ℤ) (β : ℕ → ℕ) (D : ℤ) (U : ℕ → ℕ → ℤ) → Inverse m a β D U → Smallest m a β D → Tableau m a β D U

-- A tableau can be told with its limits in ascending order.
abbrev pub TableausHaveAnAscendingOrder : Type 0
TableausHaveAnAscendingOrder = (m : ℕ) (a : ℕ → ℕ → ℤ) (β : ℕ → ℕ) (D : ℤ) (U : ℕ → ℕ → ℤ) → Tableau m a β D U
    → (β' : ℕ → ℕ) × (U' : ℕ → ℕ → ℤ) × Tableau m a β' D U' × Among m β β' × Ascending m β'

-- So can a corner of a plant.
abbrev pub CornersHaveAnAscendingOrder : Type 0
CornersHaveAnAscendingOrder = (p : Meaning) (X : CornerOf p) → (Y : CornerOf p) × HasSameLimits p X Y × Ascending (commands p) Y.β

-- There is only one such order.
abbrev pub OneAscendingOrder : Type 0
OneAscendingOrder = (m : ℕ) (β β' : ℕ → ℕ) → Ascending m β → Ascending m β' → Among m β β' → Among m β' β → (r : ℕ) → r < m → β r ≡ β' r
