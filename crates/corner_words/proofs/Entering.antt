-- From the leaving row and the exchange to what became of the entering limit.
use Rattle.std.proofs.Common.{◌≡◌, ℕ, suc, ◌<◌, ◌≤◌, List, ℤ, Some, None, Ok, Err, refl, subst, arith}
use Rattle.plant.specs.Commands.{value}
use Rattle.plant.specs.Meaning.{Meaning, shape_of}
use Rattle.rows.specs.declared.OutOfWidth.{OutOfWidth as Refused}
use Rattle.tableau.specs.Basis.{Among}
use Rattle.tableau.specs.Exchange.{Leaves, Replaced}
use Rattle.tableau.specs.Plants.{commands, limits}
use Rattle.tableau.specs.Tableau.{Tableau}
use Rattle.tableau.proofs.Lowest.{among_back}
use Rattle.tableau.proofs.Pivots.{Reached, exchange_there}
use Rattle.tableau.proofs.Readings.{plant_value}
use Rattle.tableau.proofs.Runs.{after, among_replaced, replaced}
use Rattle.words.specs.declared.counts.Shape.{Shape}
use Rattle.tableau_words.specs.Exchanges.{OutOfWidthAcross, ExchangeAnswer}
use Rattle.tableau_words.specs.Leaving.{LeavingAnswer}
use Rattle.corner_words.specs.Corners.{CornerIn, InWidthAt}
use Rattle.corner_words.specs.Enters.{EnterAnswer}
use Rattle.corner_words.specs.declared.enter.NotEntered.TheVariants.{NoRow, OutOfWidth}
use Rattle.corner_words.proofs.Holdings.{LimitAnswer}
use Rattle.corner_words.proofs.Orders.{in_width_same}

-- The tableau of a corner.
abbrev pub tableau_of : (p : Meaning) (n : ℕ) (a : ℕ → ℕ → ℤ) (X : CornerIn p n a) → Tableau (commands p) a X.β X.D X.U
tableau_of p n a X = record { inverse = X.inverse; lowest = X.lowest }

-- Where the exchange across is out of width, so is every corner across.
module _ (p : Meaning) (n : ℕ) (a : ℕ → ℕ → ℤ) (X : CornerIn p n a) (j r : ℕ) (known : j < n) (leaves : Leaves (commands p) a (suc (commands p)) (value p) X.U j r) where
  pub none_in_width : OutOfWidthAcross p a X.β X.D X.U r j → (Y : CornerIn p n a) → Replaced (commands p) X.β r j Y.β → ¬ InWidthAt p n a Y
  none_in_width out Y R W = by (exchange_there (commands p) a X.β X.D X.U X.inverse r j leaves.inside leaves.above)
    where
      by : Reached (commands p) a X.β X.D X.U r j → ⊥
      by e =
          let Z : CornerIn p n a = after (commands p) n a (suc (commands p)) (value p) (plant_value p) X r j e.g e.β' e.D' e.U' known leaves e.exchanged e.lowest in
          let there : Among (commands p) Z.β Y.β = among_replaced (commands p) a X.β X.D X.U r j e.g e.β' e.D' e.U' Y.β e.exchanged R in
          let back : Among (commands p) Y.β Z.β = among_back (commands p) a Z.β Z.D Z.U Z.inverse Y.β Y.D Y.U Y.inverse there in
          out e.g e.β' e.D' e.U' e.exchanged e.lowest (in_width_same p n a Y Z back W)

module _ (c : Shape) (j : ℕ) (before : List ℤ) where
  pub no_row : LeavingAnswer c j before None → EnterAnswer c j before before (Err NoRow)
  no_row N p n a X s all few H = (N p a X.β X.D X.U s H.held, refl)

  module _ (place : j < c.limits) (r : ℕ) (L : LeavingAnswer c j before (Some r)) (words : List ℤ) where
    below : (p : Meaning) (n : ℕ) → c ≡ shape_of p → limits p ≤ n → j < n
    below p n s all = let l : j < limits p = subst (λ (q : Shape). j < q.limits) s place in omega arith

    pub gone_across : (l : ℕ) → LimitAnswer c r before l → (x : Unit) → ExchangeAnswer c r j before words (Ok x) → EnterAnswer c j before words (Ok l)
    gone_across l e x E p n a X s all few H =
        let leaves = L p a X.β X.D X.U s H.held in
        let A = E p a X.β X.D X.U s (tableau_of p n a X) H.held in
        record {
          row = r;
          leaves = leaves;
          left = e p n a X s H;
          to = after (commands p) n a (suc (commands p)) (value p) (plant_value p) X r j A.divisor A.β' A.D' A.U' (below p n s all) leaves A.exchanged A.tableau.lowest;
          across = replaced (commands p) a X.β X.D X.U r j A.divisor A.β' A.D' A.U' A.exchanged;
          holds = record { held = A.held; in_width = A.in_width };
        }

    pub out_of_width : (x : Refused) → ExchangeAnswer c r j before words (Err x) → EnterAnswer c j before words (Err OutOfWidth)
    out_of_width x E p n a X s all few H =
        let leaves = L p a X.β X.D X.U s H.held in
        record {
          row = r;
          leaves = leaves;
          out = none_in_width p n a X j r (below p n s all) leaves (E p a X.β X.D X.U s (tableau_of p n a X) H.held);
        }
