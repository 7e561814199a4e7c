-- Corners and willing limits are those of the perturbed program.
use Rattle.std.specs.Prelude.{ℕ, ◌<◌, ◌≡◌, List, ℤ, pos, ◌<ℤ◌}
use Rattle.exact.specs.Vectors.{dot}
use Rattle.exact.specs.Lists.{Positive}
use Rattle.plant.specs.Meaning.{Meaning}
use Rattle.plant.specs.Commands.{column}
use Rattle.tableau.specs.Points.{slack}
use Rattle.tableau.specs.Plants.{commands, limits, CornerOf}
use Rattle.tableau.specs.Tableau.{Tableau}
use Rattle.tableau.specs.Readings.{WillingAt}
use Rattle.tableau.specs.Perturbed.{ForLarge, expansion, perturbed_gains, perturbed_sides}

-- A list is positive exactly when the number that it stands for is positive for every small enough ε.
abbrev pub PositiveListsArePositiveNumbers : Type 0
PositiveListsArePositiveNumbers = (w : ℕ) (u : ℕ → ℤ) → (Positive w u → ForLarge (λ N. pos 0 <ℤ expansion w u N)) × (ForLarge (λ N. pos 0 <ℤ expansion w u N) → Positive w u)

-- At a corner the solution for the perturbed gains is positive for every small enough ε.
abbrev pub CornersArePositiveForPerturbedGains : Type 0
CornersArePositiveForPerturbedGains = (p : Meaning) (X : CornerOf p) → ForLarge (λ N. (r : ℕ) → r < commands p → pos 0 <ℤ dot (commands p) (perturbed_gains p N) (X.U r))

-- And a basis with such a solution is a corner.
abbrev pub PositiveForPerturbedGainsAreCorners : Type 0
PositiveForPerturbedGainsAreCorners = (p : Meaning) (β : ℕ → ℕ) (D : ℤ) (U : ℕ → ℕ → ℤ) → ((r : ℕ) → r < commands p → β r < limits p) → Tableau (commands p) (column p) β D U
    → ForLarge (λ N. (r : ℕ) → r < commands p → pos 0 <ℤ dot (commands p) (perturbed_gains p N) (U r)) → (X : CornerOf p) × (X.β ≡ β) × (X.D ≡ D) × (X.U ≡ U)

-- A limit is willing exactly when its slack for the perturbed sides is negative for every small enough ε.
abbrev pub WillingLimitsAreNegativeForPerturbedSides : Type 0
WillingLimitsAreNegativeForPerturbedSides = (p : Meaning) (θ : List ℤ) (X : CornerOf p) (j : ℕ) → j < limits p
    → (WillingAt p X θ j → ForLarge (λ N. slack (commands p) (column p) X.β X.D X.U (perturbed_sides p θ N) j <ℤ pos 0))
    × (ForLarge (λ N. slack (commands p) (column p) X.β X.D X.U (perturbed_sides p θ N) j <ℤ pos 0) → WillingAt p X θ j)
