-- What a start comes to.
use Rattle.std.specs.Prelude.{◌≡◌, ℕ, ◌+◌, ◌<◌, List, ℤ, pos, ◌≤ℤ◌, Ok, Err, Result}
use Rattle.exact.specs.Vectors.{entries}
use Rattle.plant.specs.Meaning.{Meaning, shape_of}
use Rattle.tableau.specs.Masks.{mask_of}
use Rattle.tableau.specs.Plants.{CornerOf, SearchCorner}
use Rattle.tableau.specs.Search.{SearchEnded}
use Rattle.words.specs.declared.counts.Shape.{Shape}
use Rattle.words.specs.declared.refusal.Refusal.{Refusal}
use Rattle.words.specs.declared.refusal.Refusal.TheVariants.{Width, NoBest}
use Rattle.corner_runs.specs.Answers.{HoldsCorner, HoldsSearch, SomeSearch}
use Rattle.corner_runs.specs.StartRuns.{StartBeyondWidth}
use Rattle.corner_runs.specs.declared.search.OutOfWidthAt.{OutOfWidthAt}
use Rattle.corner_runs.specs.declared.search.Searched.{Searched}
use Rattle.trays.specs.Directions.{direction_list}
use Rattle.map_steps.specs.Steps.{laid, SearchTo, ArtificialLeft, SameBasis}
use Rattle.map_steps.specs.declared.reply.Reached.{Reached}

-- Some row of the words belongs to an artificial limit.
abbrev pub SomeArtificial : Shape → List ℤ → Type 0
SomeArtificial c ws = (r : ℕ) × (r < c.commands) × (pos c.limits ≤ℤ entries ws (1 + r))

-- Unless the search ended out of width, the words hold a corner of it; the limit is one of the plant's.
abbrev pub KeptSearch : Shape → List ℤ → Result Unit OutOfWidthAt → Type 0
KeptSearch c ws (Ok e) = SomeSearch c ws
KeptSearch c ws (Err j) = j.0 < c.limits

-- Unless the search ended out of width, the words hold the corner Y of it.
abbrev pub SearchUnless : (p : Meaning) → SearchCorner p → List ℤ → Result Unit OutOfWidthAt → Type 0
SearchUnless p Y ws (Ok e) = HoldsSearch p Y ws
SearchUnless p Y ws (Err j) = Unit {0}

-- What the end of a search at Y is told as: no best, or the corner of the plant with the basis of Y.
pub data Told (p : Meaning) (Y : SearchCorner p) (ws tray tray' : List ℤ) (made : ℕ) : Result Reached Refusal → Type 0 where
  unbounded : ArtificialLeft p Y → tray' ≡ laid (direction_list p Y) tray → Told p Y ws tray tray' made (Err NoBest)
  corner : {a : Reached} (X : CornerOf p) → SameBasis p X Y → HoldsCorner p X ws → a.mask ≡ mask_of p X → a.exchanges ≡ made → tray' ≡ tray → Told p Y ws tray tray' made (Ok a)

abbrev pub StartConcluded : (p : Meaning) → SearchCorner p → List ℤ → List ℤ → List ℤ → ℕ → Result Reached Refusal → Result Unit OutOfWidthAt → Type 0
StartConcluded p Y ws tray tray' made x (Ok e) = Told p Y ws tray tray' made x
StartConcluded p Y ws tray tray' made x (Err j) = (x ≡ Err (Width (j.0 + 1))) × (tray' ≡ tray)

abbrev pub StartConclusion : Shape → List ℤ → List ℤ → List ℤ → Searched → Result Reached Refusal → Type 0
StartConclusion c ws tray tray' s x = (p : Meaning) (Y : SearchCorner p) → c ≡ shape_of p → SearchUnless p Y ws s.end → StartConcluded p Y ws tray tray' s.exchanges x s.end

-- The search from the basis of all artificial limits, its end and what is left: the words hold the first corner, the tray the direction.
pub data FirstCorner (p : Meaning) (ws tray tray' : List ℤ) : Result Reached Refusal → Type 0 where
  found : {a : Reached} (Y : SearchCorner p) (X : CornerOf p) → SearchTo p a.exchanges Y → SearchEnded p Y → SameBasis p X Y → HoldsCorner p X ws → a.mask ≡ mask_of p X → tray' ≡ tray → FirstCorner p ws tray tray' (Ok a)
  no_best : (made : ℕ) (Y : SearchCorner p) → SearchTo p made Y → SearchEnded p Y → ArtificialLeft p Y → tray' ≡ laid (direction_list p Y) tray → FirstCorner p ws tray tray' (Err NoBest)
  wide : {place : ℕ} (made j : ℕ) (Y : SearchCorner p) → SearchTo p made Y → StartBeyondWidth p Y j → place ≡ j + 1 → tray' ≡ tray → FirstCorner p ws tray tray' (Err (Width place))
