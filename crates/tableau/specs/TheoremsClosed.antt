-- What finished lists of corners answer.
use Rattle.std.specs.Prelude.{ℕ, ◌<◌, List, ℤ}
use Rattle.plant.specs.Meaning.{Meaning}
use Rattle.plant.specs.Commands.{Command, KeepsAll, HasNoCommand}
use Rattle.tableau.specs.Closed.{Finished, Listed}
use Rattle.tableau.specs.Plants.{CornerOf}
use Rattle.tableau.specs.Readings.{Region}
use Rattle.tableau.specs.Runs.{Run}

-- Wherever a command keeps all limits, a finished list has a corner whose region holds the reading.
abbrev pub FinishedListsAnswer : Type 0
FinishedListsAnswer = (p : Meaning) (θ : List ℤ) (k : ℕ) (C : ℕ → CornerOf p) → 0 < k → Finished p k C → (v : Command) → KeepsAll p θ v → (i : ℕ) × (i < k) × Region p (C i) θ

-- Where no region holds the reading there is no command.
abbrev pub NoRegionMeansNoCommand : Type 0
NoRegionMeansNoCommand = (p : Meaning) (θ : List ℤ) (k : ℕ) (C : ℕ → CornerOf p) → 0 < k → Finished p k C → ((i : ℕ) → i < k → ¬ Region p (C i) θ) → HasNoCommand p θ

-- No run leaves a finished list.
abbrev pub RunsStayListed : Type 0
RunsStayListed = (p : Meaning) (θ : List ℤ) (k : ℕ) (C : ℕ → CornerOf p) → Finished p k C → (X Y : CornerOf p) (t : ℕ) → Run p θ X t Y → Listed p k C X → Listed p k C Y
