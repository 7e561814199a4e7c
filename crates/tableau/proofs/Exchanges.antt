-- Exchanges between the corners of a plant.
use Prim.Native.Nat.{ℕ, suc, ◌<◌}
use mathlib.Core.Path.{◌≡◌, refl, sym, ap, ◌∙◌}
use native.Mathlib.Omega.{arith}
use native.Mathlib.Decide.{ℕ_discrete}
use Rattle.exact.specs.Vectors.{entries}
use Rattle.exact.specs.Value.{full}
use Rattle.exact.proofs.Ring.{lin}
use Rattle.exact.proofs.Values.{full_value}
use Rattle.plant.specs.Meaning.{Meaning}
use Rattle.plant.specs.Commands.{column, value}
use Rattle.tableau.specs.Basis.{Among, Inverse}
use Rattle.tableau.specs.Points.{negative, tied}
use Rattle.tableau.specs.Plants.{commands, limits, rate, CornerOf}
use Rattle.tableau.specs.Runs.{HasSameLimits, Leaves, Across}
use Rattle.tableau.specs.TheoremsExchange.{ExchangeLeadsToACorner, ExchangedNumbersAreACorner, OneCornerAcross, ExchangeRewritesEveryRow, OneLimitLeaves, SomeLimitLeaves, TiedLimitFindsARow, WillingLimitsAreOutside, ExchangesLeadBack, ExchangedNumbersLeadBack}
use Rattle.tableau.proofs.Exchange.{exchange, dot_pivot, dot_other, moves, value_moves, slack_moves}
use Rattle.tableau.proofs.Lowest.{among_back, lowest_d, lowest_u}
use Rattle.tableau.proofs.Pivots.{Reached, exchange_there, leaving_there, leaving_one, back_leaves, back}
use Rattle.tableau.proofs.Runs.{after, replaced, among_replaced}
use Rattle.tableau.proofs.Closed.{leaves_same}
use Rattle.tableau.proofs.Willing.{injective}
use Rattle.tableau.proofs.Readings.{plant_value}
use Rattle.tableau.proofs.Certificates.{negative_outside}

pub numbers_corner : ExchangedNumbersAreACorner
numbers_corner p X j r known leaves g β' D' U' e low = (
  after (commands p) (limits p) (column p) (suc (commands p)) (value p) (plant_value p) X r j g β' D' U' known leaves e low,
  replaced (commands p) (column p) X.β X.D X.U r j g β' D' U' e,
  refl,
  refl,
  refl,
)

pub leads : ExchangeLeadsToACorner
leads p X j r known leaves =
    let e = exchange_there (commands p) (column p) X.β X.D X.U X.inverse r j leaves.inside leaves.above in
    let (Y, across, eβ, eD, eU) = numbers_corner p X j r known leaves e.g e.β' e.D' e.U' e.exchanged e.lowest in
    (Y, across)

module _ (p : Meaning) (X : CornerOf p) (j r : ℕ) (e : Reached (commands p) (column p) X.β X.D X.U r j) where
  reached_inverse : Inverse (commands p) (column p) e.β' e.D' e.U'
  reached_inverse = exchange (commands p) (column p) X.β X.D X.U r j e.g e.β' e.D' e.U' X.inverse e.exchanged

  reached_among : (Y : CornerOf p) → Across p X r j Y → Among (commands p) e.β' Y.β
  reached_among Y across = among_replaced (commands p) (column p) X.β X.D X.U r j e.g e.β' e.D' e.U' Y.β e.exchanged across

  reached_back : (Y : CornerOf p) → Across p X r j Y → Among (commands p) Y.β e.β'
  reached_back Y across = among_back (commands p) (column p) e.β' e.D' e.U' reached_inverse Y.β Y.D Y.U Y.inverse (reached_among Y across)

pub one_across : OneCornerAcross
one_across p X Y Z j r known leaves u v = by (exchange_there (commands p) (column p) X.β X.D X.U X.inverse r j leaves.inside leaves.above)
  where
    by : Reached (commands p) (column p) X.β X.D X.U r j → HasSameLimits p Y Z × (Y.D ≡ Z.D) × ((s t : ℕ) → s < commands p → t < commands p → Z.β t ≡ Y.β s → (c : ℕ) → c < commands p → Z.U t c ≡ Y.U s c)
    by e =
        let among : HasSameLimits p Y Z = λ s l. let (i, li, f) = reached_back p X j r e Y u s l in let (q, k, h) = reached_among p X j r e Z v i li in (q, k, h ∙ f) in (
          among,
          lowest_d (commands p) (column p) Y.β Y.D Y.U Y.inverse Z.β Z.D Z.U Z.inverse among Y.lowest Z.lowest,
          lowest_u (commands p) (column p) Y.β Y.D Y.U Y.inverse Z.β Z.D Z.U Z.inverse among Y.lowest Z.lowest,
        )

pub leads_back : ExchangesLeadBack
leads_back p X Y r j q known leaves across lq eq = by (exchange_there (commands p) (column p) X.β X.D X.U X.inverse r j leaves.inside leaves.above)
  where
    by : Reached (commands p) (column p) X.β X.D X.U r j → Leaves p Y (X.β r) q × Across p Y q (X.β r) X
    by e = (
      leaves_same (commands p) (column p) e.β' e.D' e.U' (reached_inverse p X j r e) Y.β Y.D Y.U Y.inverse (reached_among p X j r e Y across) (suc (commands p)) (value p) (plant_value p) (X.β r) r q leaves.inside lq
          (eq ∙ sym e.exchanged.comes) (back_leaves (commands p) (column p) X.β X.D X.U r j e.g e.β' e.D' e.U' X.inverse e.exchanged (suc (commands p)) (value p) (plant_value p) X.rows),
      record { comes = (r, leaves.inside, refl); stay = stay },
    )
      where
        stay : (i : ℕ) → i < commands p → ¬ (i ≡ q) → (s : ℕ) × (s < commands p) × (X.β s ≡ Y.β i)
        stay i l d =
            let (s, ls, f) = reached_back p X j r e Y across i l in
            (s, ls, sym (e.exchanged.stays s ls (λ n. d (injective (commands p) (column p) Y.β Y.D Y.U Y.inverse i q l lq (sym f ∙ ap e.β' n ∙ e.exchanged.comes ∙ sym eq)))) ∙ f)

pub numbers_back : ExchangedNumbersLeadBack
numbers_back p X Y r j g e = back (commands p) (column p) X.β X.D X.U r j g Y.β Y.D Y.U X.inverse e X.lowest

pub rewrites : ExchangeRewritesEveryRow
rewrites p a β D U r j g β' D' U' B X = record {
  pivot_gain = dot_pivot (commands p) a β D U r j g β' D' U' B X (entries p.gains);
  pivot_entries = λ i. dot_pivot (commands p) a β D U r j g β' D' U' B X (a i);
  row_gains = dot_other (commands p) a β D U r j g β' D' U' B X (entries p.gains);
  entries = λ s i. dot_other (commands p) a β D U r j g β' D' U' B X (a i) s;
  law_gains = λ k. value_moves (commands p) a β D U r j g β' D' U' B X (suc (commands p)) (full (commands p) (entries p.gains)) (full_value (commands p) (entries p.gains)) (rate p k) 0 (omega arith);
  laws = λ k. moves (commands p) a β D U r j g β' D' U' B X (rate p k);
  slack_rates = λ k. slack_moves (commands p) a β D U r j g β' D' U' B X (rate p k);
}

pub one_leaves : OneLimitLeaves
one_leaves p X = leaving_one (commands p) (column p) X.β X.D X.U X.inverse (suc (commands p)) (value p) (plant_value p)

pub some_leaves : SomeLimitLeaves
some_leaves p X = leaving_there (commands p) (column p) X.β X.D X.U X.inverse (suc (commands p)) (value p)

pub tied_leaves : TiedLimitFindsARow
tied_leaves p θ X j (negative l) e = absurd (omega (arith, lin))
tied_leaves p θ X j (tied z q l k t s) e = some_leaves p X j q l t

pub willing_outside : WillingLimitsAreOutside
willing_outside p θ X j (negative l) i = negative_outside p θ X j l i
willing_outside p θ X j (tied z q l k t s) (r, lr, e) = elim (ℕ_discrete q r) [
  | yes d ↦ omega (arith, e, ap X.β d)
  | no d ↦ omega (arith, lin, t, rw e at (X.inverse.left_other q r l lr d))
]
