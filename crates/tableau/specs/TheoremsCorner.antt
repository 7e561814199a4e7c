-- What a corner says of the commands of its plant.
use Rattle.std.specs.Prelude.{ℕ, ◌<◌, List, ℤ, pos, ◌<ℤ◌}
use Rattle.plant.specs.Meaning.{Meaning}
use Rattle.plant.specs.Commands.{Command, Best, HasNoCommand, Free, BetterThanStill}
use Rattle.tableau.specs.Plants.{limits, CornerOf}
use Rattle.tableau.specs.Readings.{slack_at, Region, command_at, IsInLowestTerms}
use Rattle.tableau.specs.Runs.{InBasis, HasNoRow}
use Rattle.tableau.specs.Certificate.{Certificate, Weights}

-- A corner whose slacks are none negative gives the best command of all that keep the limits.
abbrev pub RegionGivesTheBest : Type 0
RegionGivesTheBest = (p : Meaning) (θ : List ℤ) (X : CornerOf p) → Region p X θ → Best p θ (command_at p X θ)

-- So does its command in lowest terms.
abbrev pub LowestTermsAreBest : Type 0
LowestTermsAreBest = (p : Meaning) (θ : List ℤ) (X : CornerOf p) (v : Command) → Region p X θ → IsInLowestTerms p (command_at p X θ) v → Best p θ v

-- A limit with negative slack that finds no leaving row: no command keeps the limits.
abbrev pub NoRowMeansNoCommand : Type 0
NoRowMeansNoCommand = (p : Meaning) (θ : List ℤ) (X : CornerOf p) (j : ℕ) → j < limits p → slack_at p X θ j <ℤ pos 0 → HasNoRow p X j → HasNoCommand p θ

-- A limit outside the basis has weights.
abbrev pub WeightsExist : Type 0
WeightsExist = (p : Meaning) (X : CornerOf p) (j : ℕ) → j < limits p → ¬ InBasis p X j → (y : ℕ → ℤ) × Weights p X j y

-- The weights of a limit with negative slack that finds no leaving row are a certificate.
abbrev pub WeightsAreACertificate : Type 0
WeightsAreACertificate = (p : Meaning) (θ : List ℤ) (X : CornerOf p) (j : ℕ) (y : ℕ → ℤ) → j < limits p → slack_at p X θ j <ℤ pos 0 → HasNoRow p X j → Weights p X j y → Certificate p θ y

-- A certificate shows that no command keeps the limits.
abbrev pub CertificateMeansNoCommand : Type 0
CertificateMeansNoCommand = (p : Meaning) (θ : List ℤ) (y : ℕ → ℤ) → Certificate p θ y → HasNoCommand p θ

-- Where a corner exists, no free direction is better than standing still.
abbrev pub CornerExcludesBetterDirections : Type 0
CornerExcludesBetterDirections = (p : Meaning) (y : ℕ → ℤ) → CornerOf p → Free p y → BetterThanStill p y → ⊥
