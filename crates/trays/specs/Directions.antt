-- The direction of the search, on a tray.
use Rattle.std.specs.Prelude.{◌≡◌, List, ℤ}
use Rattle.plant.specs.Meaning.{Meaning, shape_of}
use Rattle.tableau.specs.Plants.{commands, all_columns, SearchCorner}
use Rattle.tableau.specs.Search.{direction}
use Rattle.tableau_words.specs.Held.{Held}
use Rattle.words.specs.declared.counts.Shape.{Shape}
use Rattle.trays.specs.Trays.{filled, first}

-- The direction Y at a corner of the search, and zeros.
abbrev pub direction_list : (p : Meaning) → SearchCorner p → List ℤ
direction_list p X = filled (first (commands p) (direction p X))

-- That of any corner of the search that the words hold.
abbrev pub DirectionAnswer : Shape → List ℤ → List ℤ → Type 0
DirectionAnswer c ws xs = (p : Meaning) (X : SearchCorner p) → c ≡ shape_of p → Held p (all_columns p) X.β X.D X.U ws → xs ≡ direction_list p X
