-- What the words say of a corner.
use Rattle.std.specs.Prelude.{◌≡◌, ℕ, ◌+◌, ◌<◌, List, ℤ, pos, ◌<ℤ◌}
use Rattle.exact.specs.Vectors.{entries}
use Rattle.plant.specs.Commands.{column}
use Rattle.plant.specs.Meaning.{Meaning, shape_of}
use Rattle.tableau.specs.Masks.{mask_of}
use Rattle.tableau.specs.Plants.{limits, CornerOf}
use Rattle.words.specs.declared.counts.Shape.{Shape}
use Rattle.corner_words.specs.Corners.{Holds}

-- No row belongs to an artificial limit.
abbrev pub OwnLimits : Shape → List ℤ → Type 0
OwnLimits c ws = (r : ℕ) → r < c.commands → entries ws (1 + r) <ℤ pos c.limits

-- The mask of any corner of a plant whose tableau the words hold.
abbrev pub MaskAnswer : Shape → List ℤ → ℕ → Type 0
MaskAnswer c ws b = (p : Meaning) (X : CornerOf p) → c ≡ shape_of p → Holds p (limits p) (column p) X ws → b ≡ mask_of p X
