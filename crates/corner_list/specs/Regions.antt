-- Which record's region holds a reading.
use Rattle.std.specs.Prelude.{◌≡◌, ℕ, ◌<◌, List, length, ℤ, Some, None, Option}
use Rattle.exact.specs.Bounds.{AllInWidth}
use Rattle.plant.specs.Meaning.{Meaning, shape_of}
use Rattle.tableau.specs.Plants.{CornerOf}
use Rattle.tableau.specs.Readings.{Region}
use Rattle.words.specs.declared.counts.Shape.{Shape}
use Rattle.tableau_words.specs.Layout.{most_size}
use Rattle.corner_runs.specs.Answers.{HoldsCorner}
use Rattle.corner_list.specs.Records.{tableau_in, corner}
use Rattle.corner_list.specs.declared.corner.Corner.{Corner}

-- Every record has all its words, and those of its tableau are in width.
abbrev pub AllReadable : Shape → List Corner → Type 0
AllReadable c rs = (k : ℕ) → k < length rs → (length (corner rs k).words ≡ most_size) × AllInWidth (tableau_in c (corner rs k))

-- The region of any corner that the record holds has the reading in it,
abbrev pub InRegion : Shape → List ℤ → Corner → Type 0
InRegion c θ r = (p : Meaning) (X : CornerOf p) → c ≡ shape_of p → HoldsCorner p X (tableau_in c r) → Region p X θ

-- or has not.
abbrev pub OutOfRegion : Shape → List ℤ → Corner → Type 0
OutOfRegion c θ r = (p : Meaning) (X : CornerOf p) → c ≡ shape_of p → HoldsCorner p X (tableau_in c r) → ¬ Region p X θ

-- The place of the first record whose region holds the reading, or that none does.
abbrev pub RegionAnswer : Shape → List ℤ → List Corner → Option ℕ → Type 0
RegionAnswer c θ rs (Some k) = (k < length rs) × InRegion c θ (corner rs k) × ((i : ℕ) → i < k → OutOfRegion c θ (corner rs i))
RegionAnswer c θ rs None = (i : ℕ) → i < length rs → OutOfRegion c θ (corner rs i)
