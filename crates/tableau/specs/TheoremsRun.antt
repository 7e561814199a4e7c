-- Runs fall, end, and answer; any willing limit may enter at each exchange.
use Rattle.std.specs.Prelude.{ℕ, suc, ◌<◌, ◌≡◌, List, ◌⊎◌, ℤ, pos}
use Rattle.plant.specs.Meaning.{Meaning}
use Rattle.plant.specs.Commands.{Best, HasNoCommand}
use Rattle.tableau.specs.Points.{point, unit}
use Rattle.tableau.specs.Choose.{choose}
use Rattle.tableau.specs.Plants.{commands, limits, CornerOf}
use Rattle.tableau.specs.Readings.{WillingAt, command_at}
use Rattle.tableau.specs.Runs.{HasSameLimits, InBasis, Step, Run, Ended, Falls}

-- The lists that the standing has for single limits: that of its row for a limit of the basis, zeros for another.
abbrev pub StandingHoldsTheRows : Type 0
StandingHoldsTheRows = (p : Meaning) (X : CornerOf p) (l c : ℕ)
    → ((r : ℕ) → r < commands p → X.β r ≡ l → point (commands p) X.β X.U (unit l) c ≡ X.U r c) × (¬ InBasis p X l → point (commands p) X.β X.U (unit l) c ≡ pos 0)

-- The standing falls at every exchange by any willing limit.
abbrev pub StandingFalls : Type 0
StandingFalls = (p : Meaning) (θ : List ℤ) (X Y : CornerOf p) → Step p θ X Y → Falls p θ X Y

-- So no run stands at a basis twice.
abbrev pub NoBasisTwice : Type 0
NoBasisTwice = (p : Meaning) (θ : List ℤ) (X Y : CornerOf p) (k : ℕ) → Run p θ X (suc k) Y → ¬ HasSameLimits p X Y

-- And every run has fewer exchanges than there are ways to choose m of n limits.
abbrev pub RunsAreShort : Type 0
RunsAreShort = (p : Meaning) (θ : List ℤ) (X Y : CornerOf p) (k : ℕ) → Run p θ X k Y → k < choose (limits p) (commands p)

-- A corner is an end, or has a next one.
abbrev pub EndedOrGoesOn : Type 0
EndedOrGoesOn = (p : Meaning) (θ : List ℤ) (X : CornerOf p) → Ended p θ X ⊎ ((Y : CornerOf p) × Step p θ X Y)

-- From every corner a run comes to an end.
abbrev pub RunsEnd : Type 0
RunsEnd = (p : Meaning) (θ : List ℤ) (X : CornerOf p) → (k : ℕ) × (Y : CornerOf p) × Run p θ X k Y × Ended p θ Y

-- An end has the best command, or there is no command.
abbrev pub EndsAnswer : Type 0
EndsAnswer = (p : Meaning) (θ : List ℤ) (X : CornerOf p) → Ended p θ X → Best p θ (command_at p X θ) ⊎ HasNoCommand p θ

-- At one reading all corners without a willing limit have the same limits.
abbrev pub OneCornerWithoutWillingLimits : Type 0
OneCornerWithoutWillingLimits = (p : Meaning) (θ : List ℤ) (X Y : CornerOf p) → ((j : ℕ) → j < limits p → ¬ WillingAt p X θ j) → ((j : ℕ) → j < limits p → ¬ WillingAt p Y θ j) → HasSameLimits p X Y
