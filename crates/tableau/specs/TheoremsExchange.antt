-- What an exchange leads to, which limit leaves, and how it is undone.
use Rattle.std.specs.Prelude.{ℕ, ◌<◌, ◌≡◌, List, ℤ, pos, ◌-ℤ◌, ◌*ℤ◌, ◌<ℤ◌}
use Rattle.exact.specs.Vectors.{dot}
use Rattle.exact.specs.Divisors.{Divides}
use Rattle.exact.specs.LowestTerms.{Lowest}
use Rattle.plant.specs.Meaning.{Meaning}
use Rattle.plant.specs.Commands.{column}
use Rattle.tableau.specs.Basis.{Inverse}
use Rattle.tableau.specs.Exchange as Exchange
use Rattle.tableau.specs.Plants.{commands, limits, CornerOf}
use Rattle.tableau.specs.Tableau.{entry}
use Rattle.tableau.specs.Rows.{Rewritten}
use Rattle.tableau.specs.Readings.{slack_at, WillingAt}
use Rattle.tableau.specs.Runs.{HasSameLimits, InBasis, Leaves, Across}

-- Where a limit leaves there is a corner across, with its tableau in lowest terms.
abbrev pub ExchangeLeadsToACorner : Type 0
ExchangeLeadsToACorner = (p : Meaning) (X : CornerOf p) (j r : ℕ) → j < limits p → Leaves p X j r → (Y : CornerOf p) × Across p X r j Y

-- Numbers in lowest terms that stand in the relation of an exchange to those of X are its tableau.
abbrev pub ExchangedNumbersAreACorner : Type 0
ExchangedNumbersAreACorner = (p : Meaning) (X : CornerOf p) (j r : ℕ) → j < limits p → Leaves p X j r → (g : ℤ) (β' : ℕ → ℕ) (D' : ℤ) (U' : ℕ → ℕ → ℤ)
    → Exchange.Exchanged (commands p) (column p) X.β X.D X.U r j g β' D' U' → Lowest (commands p) D' U'
    → (Y : CornerOf p) × Across p X r j Y × (Y.β ≡ β') × (Y.D ≡ D') × (Y.U ≡ U')

-- Divided by the greatest divisor, the numbers are in lowest terms.
abbrev pub GreatestDivisorGivesLowestTerms : Type 0
GreatestDivisorGivesLowestTerms = (m : ℕ) (a : ℕ → ℕ → ℤ) (β : ℕ → ℕ) (D : ℤ) (U : ℕ → ℕ → ℤ) (r j : ℕ) (g : ℤ) (β' : ℕ → ℕ) (D' : ℤ) (U' : ℕ → ℕ → ℤ)
    → Exchange.Exchanged m a β D U r j g β' D' U'
    → ((d : ℤ) → Divides d (D *ℤ dot m (a j) (U r)) → ((c : ℕ) → c < m → Divides d (D *ℤ U r c))
    → ((i : ℕ) → i < m → ¬ (i ≡ r) → (c : ℕ) → c < m → Divides d (dot m (a j) (U r) *ℤ U i c -ℤ dot m (a j) (U i) *ℤ U r c)) → Divides d g)
    → Lowest m D' U'

-- There is one corner across, but for the order of its rows.
abbrev pub OneCornerAcross : Type 0
OneCornerAcross = (p : Meaning) (X Y Z : CornerOf p) (j r : ℕ) → j < limits p → Leaves p X j r → Across p X r j Y → Across p X r j Z
    → HasSameLimits p Y Z × (Y.D ≡ Z.D) × ((s t : ℕ) → s < commands p → t < commands p → Z.β t ≡ Y.β s → (c : ℕ) → c < commands p → Z.U t c ≡ Y.U s c)

-- An exchange rewrites every row of the tableau by one formula, for the columns of any program.
abbrev pub ExchangeRewritesEveryRow : Type 0
ExchangeRewritesEveryRow = (p : Meaning) (a : ℕ → ℕ → ℤ) (β : ℕ → ℕ) (D : ℤ) (U : ℕ → ℕ → ℤ) (r j : ℕ) (g : ℤ) (β' : ℕ → ℕ) (D' : ℤ) (U' : ℕ → ℕ → ℤ)
    → Inverse (commands p) a β D U → Exchange.Exchanged (commands p) a β D U r j g β' D' U' → Rewritten p a β D U r j g β' D' U'

-- The leaving limit is one.
abbrev pub OneLimitLeaves : Type 0
OneLimitLeaves = (p : Meaning) (X : CornerOf p) (j r s : ℕ) → Leaves p X j r → Leaves p X j s → r ≡ s

-- There is one whenever some T_qj > 0.
abbrev pub SomeLimitLeaves : Type 0
SomeLimitLeaves = (p : Meaning) (X : CornerOf p) (j q : ℕ) → q < commands p → pos 0 <ℤ entry p (column p) X.U q j → (r : ℕ) × Leaves p X j r

-- A willing limit with slack 0 always finds one.
abbrev pub TiedLimitFindsARow : Type 0
TiedLimitFindsARow = (p : Meaning) (θ : List ℤ) (X : CornerOf p) (j : ℕ) → WillingAt p X θ j → slack_at p X θ j ≡ pos 0 → (r : ℕ) × Leaves p X j r

-- No limit of the basis is willing.
abbrev pub WillingLimitsAreOutside : Type 0
WillingLimitsAreOutside = (p : Meaning) (θ : List ℤ) (X : CornerOf p) (j : ℕ) → WillingAt p X θ j → ¬ InBasis p X j

-- After an exchange the limit that left can enter again in the row of the one that entered, and leads back to the old basis.
abbrev pub ExchangesLeadBack : Type 0
ExchangesLeadBack = (p : Meaning) (X Y : CornerOf p) (r j q : ℕ) → j < limits p → Leaves p X j r → Across p X r j Y → q < commands p → Y.β q ≡ j → Leaves p Y (X.β r) q × Across p Y q (X.β r) X

-- And in numbers to the old tableau.
abbrev pub ExchangedNumbersLeadBack : Type 0
ExchangedNumbersLeadBack = (p : Meaning) (X Y : CornerOf p) (r j : ℕ) (g : ℤ) → Exchange.Exchanged (commands p) (column p) X.β X.D X.U r j g Y.β Y.D Y.U
    → (g' : ℤ) × Exchange.Exchanged (commands p) (column p) Y.β Y.D Y.U r (X.β r) g' X.β X.D X.U
