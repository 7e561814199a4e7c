-- From the leaving row and the entering limit to what lies across a pair.
use Rattle.std.proofs.Common.{◌≡◌, ℕ, ◌<◌, List, length, take, ℤ, Some, None, Ok, Err, Result, sym, subst, arith}
use Rattle.std.proofs.lemmas.Int.{ints}
use Rattle.plant.specs.Commands.{column}
use Rattle.plant.specs.Meaning.{Meaning, shape_of}
use Rattle.tableau.specs.Plants.{limits, CornerOf}
use Rattle.words.specs.declared.counts.Shape.{Shape}
use Rattle.tableau_words.specs.Layout.{size, most_size}
use Rattle.tableau_words.specs.Leaving.{LeavingAnswer}
use Rattle.corner_words.specs.Enters.{GoneAcross, EnteredAt, EnterAnswer}
use Rattle.corner_words.specs.declared.enter.NotEntered.{NotEntered}
use Rattle.corner_words.specs.declared.enter.NotEntered.TheVariants.{NoRow, OutOfWidth}
use Rattle.corner_words.proofs.Holdings.{LimitAnswer}
use Rattle.rows.specs.declared.OutOfWidth.{OutOfWidth as Beyond}
use Rattle.corner_runs.specs.Answers.{HoldsCorner, SomeCorner}
use Rattle.working_tableau.specs.Crossings.{LeftAnswer, SomeRow, CrossAnswer}

module _ (c : Shape) (j : ℕ) (ws : List ℤ) where
  pub none_left : LeavingAnswer c j ws None → LeftAnswer c j ws None
  none_left N p X s H = N p (column p) X.β X.D X.U s H.held

  pub limit_left : (q l : ℕ) → LeavingAnswer c j ws (Some q) → LimitAnswer c q ws l → LeftAnswer c j ws (Some l)
  limit_left q l L A p X s H = (q, L p (column p) X.β X.D X.U s H.held, A p (limits p) (column p) X s H)

  -- What became of the entering limit, for a corner of the plant.
  module _ (after : List ℤ) where
    entered : (e : Result ℕ NotEntered) → EnterAnswer c j ws after e → (p : Meaning) (X : CornerOf p) → c ≡ shape_of p → HoldsCorner p X ws → EnteredAt p (limits p) (column p) X j ws after e
    entered e A p X s H = A p (limits p) (column p) X s (omega arith) (omega arith) H

    pub never_without_row : SomeCorner c ws → SomeRow c j ws → EnterAnswer c j ws after (Err NoRow) → ⊥
    never_without_row S R A =
        let (q, leaves) = R S.p S.X S.shape S.holds in
        let none = (entered (Err NoRow) A S.p S.X S.shape S.holds).0 q leaves.inside in
        let some = leaves.above in
        omega (arith, ints)

    -- The words after are the first of the whole array.
    pub gone_across : (l : ℕ) → EnterAnswer c j ws after (Ok l) → (whole : List ℤ) → length whole ≡ most_size → take (size c) whole ≡ after → CrossAnswer c j ws (Ok whole)
    gone_across l A whole long first p X s H =
        let e : take (size (shape_of p)) whole ≡ after = subst (λ (q : Shape). take (size q) whole ≡ after) s first in
        (long, (l, subst (GoneAcross p (limits p) (column p) X j l) (sym e) (entered (Ok l) A p X s H)))

    pub crossed_out : (x : Beyond) → EnterAnswer c j ws after (Err OutOfWidth) → CrossAnswer c j ws (Err x)
    crossed_out x A = entered (Err OutOfWidth) A

  -- The limit that leaves is one of the plant's, and its row leaves.
  module _ (l : ℕ) (L : LeftAnswer c j ws (Some l)) where
    pub left_known : SomeCorner c ws → l < c.limits
    left_known S = let (q, leaves, e) = L S.p S.X S.shape S.holds in rw (S.shape, e) (S.X.known q leaves.inside)

    pub row_left : SomeRow c j ws
    row_left p X s H = let (q, leaves, e) = L p X s H in (q, leaves)
