-- Lists of corners that no exchange leaves.
use Rattle.std.specs.Prelude.{ℕ, ◌<◌, ◌⊎◌}
use Rattle.plant.specs.Meaning.{Meaning}
use Rattle.tableau.specs.Plants.{limits, CornerOf}
use Rattle.tableau.specs.Runs.{HasSameLimits, InBasis, Leaves, HasNoRow, Across}

-- The exchange by which limit j enters at X leads to the limits of Y.
pub record LeadsTo (p : Meaning) (X : CornerOf p) (j : ℕ) (Y : CornerOf p) : Type 0 where
  pub row : ℕ
  pub leaves : Leaves p X j row
  pub across : Across p X row j Y

-- The first k corners of C are a finished list: each limit outside one of them finds no row to leave, or leads to one of them.
abbrev pub Finished : (p : Meaning) → ℕ → (ℕ → CornerOf p) → Type 0
Finished p k C = (i : ℕ) → i < k → (j : ℕ) → j < limits p → ¬ InBasis p (C i) j → HasNoRow p (C i) j ⊎ ((i' : ℕ) × (i' < k) × LeadsTo p (C i) j (C i'))

-- X has the limits of one of them.
abbrev pub Listed : (p : Meaning) → ℕ → (ℕ → CornerOf p) → CornerOf p → Type 0
Listed p k C X = (i : ℕ) × (i < k) × HasSameLimits p X (C i)
