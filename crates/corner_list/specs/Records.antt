-- The records of listed corners. That there is a corner is said by ∥ ∥₁, so that it has one proof at most and may stand in a ghost field;
-- the corner itself can be told again from the numbers of the words.
use Rattle.std.specs.Prelude.{◌≡◌, ℕ, ◌<◌, List, [], length, take, ℤ, slice_index_or}
use Rattle.plant.specs.Meaning.{Meaning, shape_of}
use Rattle.tableau.specs.Masks.{mask_of}
use Rattle.tableau.specs.Plants.{CornerOf}
use Rattle.words.specs.declared.counts.Shape.{Shape}
use Rattle.tableau_words.specs.Layout.{size, most_size}
use Rattle.corner_runs.specs.Answers.{HoldsCorner}
use Rattle.corner_list.specs.declared.corner.Corner.{Corner}

-- The words hold the tableau, in width, of a corner of the plant.
abbrev pub CornerWords : Meaning → List ℤ → Type 0
CornerWords p ws = ∥ ((X : CornerOf p) × HoldsCorner p X ws) ∥₁

-- The words of the tableau in a record.
abbrev pub tableau_in : Shape → Corner → List ℤ
tableau_in c r = take (size c) r.words

-- The record of a corner of the plant.
abbrev pub Record : Meaning → Corner → Type 0
Record p r = (length r.words ≡ most_size) × ∥ ((X : CornerOf p) × HoldsCorner p X (tableau_in (shape_of p) r) × (r.mask ≡ mask_of p X)) ∥₁

-- The record at a place from 0.
abbrev pub corner : List Corner → ℕ → Corner
corner cs k = slice_index_or cs k (record { mask = 0; words = [] })

-- Every record of a list is that of a corner of the plant.
abbrev pub AllRecords : Meaning → List Corner → Type 0
AllRecords p cs = (k : ℕ) → k < length cs → Record p (corner cs k)
