-- What lies across a pair: a corner that the words hold, and a limit outside its basis. Limits count from 0.
use Rattle.std.specs.Prelude.{◌≡◌, ℕ, List, length, take, ℤ, Some, None, Option, Ok, Err, Result}
use Rattle.plant.specs.Commands.{column}
use Rattle.plant.specs.Meaning.{Meaning, shape_of}
use Rattle.tableau.specs.Plants.{limits, CornerOf}
use Rattle.tableau.specs.Runs.{Leaves, HasNoRow}
use Rattle.words.specs.declared.counts.Shape.{Shape}
use Rattle.tableau_words.specs.Layout.{size, most_size}
use Rattle.rows.specs.declared.OutOfWidth.{OutOfWidth}
use Rattle.corner_words.specs.Enters.{GoneAcross, OutOfWidthAt}
use Rattle.corner_runs.specs.Answers.{HoldsCorner}

-- The limit that leaves when limit j enters at X, or that no row can leave.
abbrev pub LeftAt : (p : Meaning) → CornerOf p → ℕ → Option ℕ → Type 0
LeftAt p X j (Some l) = (q : ℕ) × Leaves p X j q × (l ≡ X.β q)
LeftAt p X j None = HasNoRow p X j

-- It is so at any corner that the words hold.
abbrev pub LeftAnswer : Shape → ℕ → List ℤ → Option ℕ → Type 0
LeftAnswer c j ws r = (p : Meaning) (X : CornerOf p) → c ≡ shape_of p → HoldsCorner p X ws → LeftAt p X j r

-- Some row leaves when limit j enters.
abbrev pub SomeRow : Shape → ℕ → List ℤ → Type 0
SomeRow c j ws = (p : Meaning) (X : CornerOf p) → c ≡ shape_of p → HoldsCorner p X ws → (q : ℕ) × Leaves p X j q

-- The words that begin with the tableau of the corner across, or that this corner is out of width.
abbrev pub CrossedAt : (p : Meaning) → CornerOf p → ℕ → Result (List ℤ) OutOfWidth → Type 0
CrossedAt p X j (Ok ws) = (length ws ≡ most_size) × ((l : ℕ) × GoneAcross p (limits p) (column p) X j l (take (size (shape_of p)) ws))
CrossedAt p X j (Err e) = OutOfWidthAt p (limits p) (column p) X j

abbrev pub CrossAnswer : Shape → ℕ → List ℤ → Result (List ℤ) OutOfWidth → Type 0
CrossAnswer c j ws r = (p : Meaning) (X : CornerOf p) → c ≡ shape_of p → HoldsCorner p X ws → CrossedAt p X j r
