-- What the loops answer, over words that hold the tableau of the corner that they begin at.
use Rattle.std.specs.Prelude.{◌≡◌, ℕ, ◌+◌, List, length, take, ℤ, Some, None, Option, Ok, Err, Result}
use Rattle.plant.specs.Meaning.{Meaning, shape_of}
use Rattle.plant.specs.Commands.{column}
use Rattle.tableau.specs.Plants.{commands, limits, all_columns, CornerOf, SearchCorner}
use Rattle.exact.specs.Vectors.{dot}
use Rattle.tableau.specs.Search.{direction, SearchEnded}
use Rattle.words.specs.declared.counts.Shape.{Shape}
use Rattle.corner_words.specs.Corners.{Holds}
use Rattle.corner_runs.specs.SolveRuns.{SolveRun, Settled, WithoutRow, BeyondWidth}
use Rattle.corner_runs.specs.StartRuns.{LeastStopping, StartRun, StartBeyondWidth}
use Rattle.corner_runs.specs.declared.exchanges.Exchange.{Exchange}
use Rattle.corner_runs.specs.declared.run.Ran.{Ran}
use Rattle.corner_runs.specs.declared.run.Unsettled.{Unsettled}
use Rattle.corner_runs.specs.declared.run.Unsettled.TheVariants.{NoRow, OutOfWidth}
use Rattle.corner_runs.specs.declared.search.OutOfWidthAt.{OutOfWidthAt}
use Rattle.corner_runs.specs.declared.search.Searched.{Searched}

-- The words hold the tableau of a corner of the plant.
abbrev pub HoldsCorner : (p : Meaning) → CornerOf p → List ℤ → Type 0
HoldsCorner p = Holds p (limits p) (column p)

-- The words hold the tableau of a corner of the search.
abbrev pub HoldsSearch : (p : Meaning) → SearchCorner p → List ℤ → Type 0
HoldsSearch p = Holds p (limits p + commands p) (all_columns p)

-- Some plant with these counts has a corner that the words hold.
pub record SomeCorner (c : Shape) (ws : List ℤ) : Type 0 where
  pub p : Meaning
  pub X : CornerOf p
  pub shape : c ≡ shape_of p
  pub holds : HoldsCorner p X ws

pub record SomeSearch (c : Shape) (ws : List ℤ) : Type 0 where
  pub p : Meaning
  pub X : SearchCorner p
  pub shape : c ≡ shape_of p
  pub holds : HoldsSearch p X ws

-- How the run from X ended at Y. Limits count from 0. Out of width, nothing is said of the words.
abbrev pub EndedAt : (p : Meaning) → List ℤ → CornerOf p → List ℤ → Result Unit Unsettled → Type 0
EndedAt p θ Y ws (Ok x) = Settled p θ Y × HoldsCorner p Y ws
EndedAt p θ Y ws (Err (NoRow j)) = WithoutRow p θ Y j × HoldsCorner p Y ws
EndedAt p θ Y ws (Err (OutOfWidth j)) = BeyondWidth p θ Y j

-- The run from X: its exchanges, of which the trail keeps as many as it has room for, and its end.
pub record RunFrom (p : Meaning) (θ : List ℤ) (X : CornerOf p) (ws : List ℤ) (room : ℕ) (trail : List Exchange) (r : Ran) : Type 0 where
  pub exchanges : List Exchange
  pub at : CornerOf p
  pub run : SolveRun p θ X exchanges at
  pub counted : r.exchanges ≡ length exchanges
  pub noted : trail ≡ take room exchanges
  pub ended : EndedAt p θ at ws r.end

-- It is so for any corner that the words held.
abbrev pub RunAnswer : Shape → List ℤ → List ℤ → List ℤ → ℕ → List Exchange → Ran → Type 0
RunAnswer c θ before after room trail r = (p : Meaning) (X : CornerOf p) → c ≡ shape_of p → HoldsCorner p X before → RunFrom p θ X after room trail r

-- The number is a_j · Y.
abbrev pub AlongAnswer : Shape → ℕ → List ℤ → ℤ → Type 0
AlongAnswer c j ws z = (p : Meaning) (X : SearchCorner p) → c ≡ shape_of p → HoldsSearch p X ws → z ≡ dot (commands p) (column p j) (direction p X)

-- The least limit that stops Y, or that none does.
abbrev pub StoppingAt : (p : Meaning) → SearchCorner p → Option ℕ → Type 0
StoppingAt p X (Some j) = LeastStopping p X j
StoppingAt p X None = SearchEnded p X

abbrev pub StoppingAnswer : Shape → List ℤ → Option ℕ → Type 0
StoppingAnswer c ws r = (p : Meaning) (X : SearchCorner p) → c ≡ shape_of p → HoldsSearch p X ws → StoppingAt p X r

-- How the search ended at Y.
abbrev pub StartEndedAt : (p : Meaning) → SearchCorner p → List ℤ → Result Unit OutOfWidthAt → Type 0
StartEndedAt p Y ws (Ok x) = SearchEnded p Y × HoldsSearch p Y ws
StartEndedAt p Y ws (Err e) = StartBeyondWidth p Y e.0

-- The search from X.
pub record SearchFrom (p : Meaning) (X : SearchCorner p) (ws : List ℤ) (r : Searched) : Type 0 where
  pub at : SearchCorner p
  pub run : StartRun p X r.exchanges at
  pub ended : StartEndedAt p at ws r.end

abbrev pub SearchAnswer : Shape → List ℤ → List ℤ → Searched → Type 0
SearchAnswer c before after r = (p : Meaning) (X : SearchCorner p) → c ≡ shape_of p → HoldsSearch p X before → SearchFrom p X after r
