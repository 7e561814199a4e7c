-- The search with artificial limits falls, ends, and finds a corner or a better free direction.
use Rattle.std.specs.Prelude.{ℕ, suc, ◌+◌, ◌<◌, ◌≤◌, ◌≡◌, ◌⊎◌, ℤ, pos, ◌<ℤ◌}
use Rattle.exact.specs.Vectors.{dot}
use Rattle.exact.specs.LowestTerms.{Lowest}
use Rattle.plant.specs.Meaning.{Meaning}
use Rattle.plant.specs.Commands.{column, value, Free, BetterThanStill}
use Rattle.tableau.specs.Basis.{Among}
use Rattle.tableau.specs.Exchange.{Leaves, Replaced, Exchanged}
use Rattle.tableau.specs.Choose.{choose}
use Rattle.tableau.specs.Plants.{commands, limits, all_columns, CornerOf, SearchCorner}
use Rattle.tableau.specs.Search.{AllArtificial, direction, SearchStep, SearchRun, SearchEnded, DirectionFalls}

-- The basis of all artificial limits is a corner, with D = 1.
abbrev pub ArtificialLimitsAreACorner : Type 0
ArtificialLimitsAreACorner = (p : Meaning) → (X : SearchCorner p) × AllArtificial p X × (X.D ≡ pos 1)

-- A true limit with a_j · Y > 0 finds a limit that leaves.
abbrev pub SearchFindsARow : Type 0
SearchFindsARow = (p : Meaning) (X : SearchCorner p) (j : ℕ) → j < limits p → pos 0 <ℤ dot (commands p) (column p j) (direction p X)
    → (r : ℕ) × Leaves (commands p) (all_columns p) (suc (commands p)) (value p) X.U j r

-- True limits of the basis have a_j · Y = 0, so that only limits outside it can enter.
abbrev pub SearchLimitsOfTheBasisAreMet : Type 0
SearchLimitsOfTheBasisAreMet = (p : Meaning) (X : SearchCorner p) (r : ℕ) → r < commands p → X.β r < limits p → dot (commands p) (column p (X.β r)) (direction p X) ≡ pos 0

-- Numbers in lowest terms that stand in the relation of an exchange to those of a corner of the search are the tableau of the corner across.
abbrev pub SearchedNumbersAreACorner : Type 0
SearchedNumbersAreACorner = (p : Meaning) (X : SearchCorner p) (j r : ℕ) → j < limits p → Leaves (commands p) (all_columns p) (suc (commands p)) (value p) X.U j r
    → (g : ℤ) (β' : ℕ → ℕ) (D' : ℤ) (U' : ℕ → ℕ → ℤ) → Exchanged (commands p) (all_columns p) X.β X.D X.U r j g β' D' U' → Lowest (commands p) D' U'
    → (Y : SearchCorner p) × Replaced (commands p) X.β r j Y.β × (Y.β ≡ β') × (Y.D ≡ D') × (Y.U ≡ U')

-- V(Y) / D falls at every exchange of the search, by any true limit with a_j · Y > 0.
abbrev pub DirectionFallsAtEachStep : Type 0
DirectionFallsAtEachStep = (p : Meaning) (X Y : SearchCorner p) → SearchStep p X Y → DirectionFalls p X Y

-- So no search stands at a basis twice.
abbrev pub NoBasisTwiceInASearch : Type 0
NoBasisTwiceInASearch = (p : Meaning) (X Y : SearchCorner p) (k : ℕ) → SearchRun p X (suc k) Y → ¬ Among (commands p) X.β Y.β

-- And every search has fewer exchanges than there are ways to choose m of n + m limits.
abbrev pub SearchesAreShort : Type 0
SearchesAreShort = (p : Meaning) (X Y : SearchCorner p) (k : ℕ) → SearchRun p X k Y → k < choose (limits p + commands p) (commands p)

-- A corner of the search is an end, or has a next one.
abbrev pub SearchEndedOrGoesOn : Type 0
SearchEndedOrGoesOn = (p : Meaning) (X : SearchCorner p) → SearchEnded p X ⊎ ((Y : SearchCorner p) × SearchStep p X Y)

-- From every corner a search comes to an end.
abbrev pub SearchesEnd : Type 0
SearchesEnd = (p : Meaning) (X : SearchCorner p) → (k : ℕ) × (Y : SearchCorner p) × SearchRun p X k Y × SearchEnded p Y

-- A basis of true limits alone is a corner of the plant, with the same tableau.
abbrev pub TrueLimitsAreACorner : Type 0
TrueLimitsAreACorner = (p : Meaning) (X : SearchCorner p) → ((r : ℕ) → r < commands p → X.β r < limits p) → (C : CornerOf p) × (C.β ≡ X.β) × (C.D ≡ X.D) × (C.U ≡ X.U)

-- With an artificial limit left at the end, Y is free and better than standing still.
abbrev pub ArtificialLimitMeansABetterDirection : Type 0
ArtificialLimitMeansABetterDirection = (p : Meaning) (X : SearchCorner p) (r : ℕ) → r < commands p → limits p ≤ X.β r → SearchEnded p X → Free p (direction p X) × BetterThanStill p (direction p X)

-- Each plant has a corner, or a free direction that is better than standing still.
abbrev pub CornerOrBetterDirection : Type 0
CornerOrBetterDirection = (p : Meaning) → CornerOf p ⊎ ((y : ℕ → ℤ) × Free p y × BetterThanStill p y)
