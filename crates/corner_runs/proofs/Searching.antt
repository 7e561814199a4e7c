-- The search for a first corner, as far as it has come.
use Rattle.std.proofs.Common.{◌≡◌, ℕ, ◌+◌, ◌<◌, List, ℤ, Some, None, Ok, Err, Result, add-one, arith}
use Rattle.std.proofs.lemmas.Int.{ints}
use Rattle.plant.specs.Meaning.{Meaning, shape_of}
use Rattle.tableau.specs.Chain.{done, more}
use Rattle.tableau.specs.Choose.{choose}
use Rattle.tableau.specs.Plants.{commands, limits, all_columns, SearchCorner}
use Rattle.tableau.proofs.Searches.{search_row}
use Rattle.words.specs.declared.counts.Shape.{Shape}
use Rattle.corner_words.specs.Enters.{EnteredAt, EnterAnswer}
use Rattle.corner_words.specs.declared.enter.NotEntered.{NotEntered}
use Rattle.corner_words.specs.declared.enter.NotEntered.TheVariants.{NoRow, OutOfWidth}
use Rattle.corner_runs.specs.Answers.{HoldsSearch, SomeSearch, StoppingAnswer, SearchFrom}
use Rattle.corner_runs.specs.StartRuns.{LeastStopping, StartRun}
use Rattle.corner_runs.proofs.Chains.{start_short}

-- The corner that the words now hold, so many exchanges from X.
pub record SearchingAt (p : Meaning) (X : SearchCorner p) (made : ℕ) (ws : List ℤ) : Type 0 where
  pub at : SearchCorner p
  pub run : StartRun p X made at
  pub holds : HoldsSearch p at ws

-- It is so for any corner that the words held at first.
pub record Searching (c : Shape) (before : List ℤ) (made : ℕ) (ws : List ℤ) : Type 0 where
  pub from : (p : Meaning) (X : SearchCorner p) → c ≡ shape_of p → HoldsSearch p X before → SearchingAt p X made ws

pub search_first : (c : Shape) (ws : List ℤ) → Searching c ws 0 ws
search_first c ws = record { from = λ p X s H. record { at = X; run = done; holds = H } }

module _ {c : Shape} {before ws : List ℤ} {made : ℕ} (W : Searching c before made ws) where
  pub searched : SomeSearch c before → SomeSearch c ws
  searched S = let w = W.from S.p S.X S.shape S.holds in record { p = S.p; X = w.at; shape = S.shape; holds = w.holds }

  pub made_few : SomeSearch c before → made < choose (c.limits + c.commands) c.commands
  made_few S = let w = W.from S.p S.X S.shape S.holds in rw S.shape (start_short S.p S.X w.at made w.run)

  module _ (p : Meaning) (X : SearchCorner p) (s : c ≡ shape_of p) (H : HoldsSearch p X before) where
    abbrev w : SearchingAt p X made ws
    w = W.from p X s H

    pub search_over : StoppingAnswer c ws None → SearchFrom p X ws (record { end = Ok tt; exchanges = made })
    search_over E = record { at = w.at; run = w.run; ended = (E p w.at s w.holds, w.holds) }

    module _ (j : ℕ) (E : StoppingAnswer c ws (Some j)) (ws' : List ℤ) where
      stopping : LeastStopping p w.at j
      stopping = E p w.at s w.holds

      enters : (e : Result ℕ NotEntered) → EnterAnswer c j ws ws' e → EnteredAt p (limits p + commands p) (all_columns p) w.at j ws ws' e
      enters e A = A p (limits p + commands p) (all_columns p) w.at s (omega arith) (omega arith) w.holds

      -- A limit that stops Y always finds a row.
      pub never_without_row : EnterAnswer c j ws ws' (Err NoRow) → ⊥
      never_without_row A =
          let (r, leaves) = search_row p w.at j stopping.known stopping.stops in
          let none = (enters (Err NoRow) A).0 r leaves.inside in
          let some = leaves.above in
          omega (arith, ints)

      pub search_wide : EnterAnswer c j ws ws' (Err OutOfWidth) → SearchFrom p X ws' (record { end = Err (record { 0 = j }); exchanges = made })
      search_wide A = let o = enters (Err OutOfWidth) A in record { at = w.at; run = w.run; ended = record { least = stopping; row = o.row; leaves = o.leaves; out = o.out } }

      pub searches_on : (l : ℕ) → EnterAnswer c j ws ws' (Ok l) → SearchingAt p X (made + 1) ws'
      searches_on l A =
          let g = enters (Ok l) A in
          record {
            at = g.to;
            run = rw add-one (more w.run (record { enters = j; row = g.row; least = stopping; leaves = g.leaves; across = g.across; in_width = g.holds.in_width }));
            holds = g.holds;
          }
