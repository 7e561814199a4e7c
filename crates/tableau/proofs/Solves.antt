-- Runs of exchanges of a plant at a reading.
use Prim.Native.Nat.{ℕ, zero, suc, ◌+◌, ◌<◌, ◌≤◌}
use mathlib.Core.Path.{◌≡◌, sym, subst}
use mathlib.Core.List.{List}
use mathlib.Core.Logic.{◌⊎◌, inl, inr}
use native.Mathlib.Omega.{arith}
use lib.IntN.{ℤ, pos}
use lib.Signed.{◌<ℤ◌}
use Rattle.exact.proofs.Ring.{lin, le_or_lt}
use Rattle.exact.proofs.Finite.{any_below}
use Rattle.plant.specs.Meaning.{Meaning}
use Rattle.plant.specs.Commands.{column, side, value}
use Rattle.tableau.specs.Points.{point, slack, unit, sides, Willing, negative, tied}
use Rattle.tableau.specs.Chain.{done, more}
use Rattle.tableau.specs.Choose.{choose}
use Rattle.tableau.specs.Plants.{commands, limits, CornerOf}
use Rattle.tableau.specs.Tableau.{entry}
use Rattle.tableau.specs.Readings.{slack_at, Region, WillingAt}
use Rattle.tableau.specs.Runs.{HasNoRow, Step, Run, Ended, none_willing, blocked}
use Rattle.tableau.specs.Closed.{Finished}
use Rattle.tableau.specs.TheoremsRun.{StandingHoldsTheRows, StandingFalls, NoBasisTwice, RunsAreShort, EndedOrGoesOn, RunsEnd, EndsAnswer, OneCornerWithoutWillingLimits}
use Rattle.tableau.specs.TheoremsClosed.{FinishedListsAnswer, NoRegionMeansNoCommand, RunsStayListed}
use Rattle.tableau.proofs.Points.{above?}
use Rattle.tableau.proofs.Chain.{chain_map}
use Rattle.tableau.proofs.Willing.{begins, table_in, table_out}
use Rattle.tableau.proofs.Runs.{Move, neighbour, move_falls, no_return, run_bound}
use Rattle.tableau.proofs.ReducedCosts.{willing?, one_unwilling_corner}
use Rattle.tableau.proofs.Closed.{Closed, finished, run_listed}
use Rattle.tableau.proofs.Readings.{plant_value, slack_side}
use Rattle.tableau.proofs.Corners.{region_best, blocked_no_command}
use Rattle.tableau.proofs.Exchanges.{leads, some_leaves}

module _ (p : Meaning) (θ : List ℤ) where
  abbrev h : ℕ → ℤ
  h = side p θ

  -- Willing at the reading is willing for the right sides at it.
  pub willing_side : (X : CornerOf p) (j : ℕ) → WillingAt p X θ j → Willing (commands p) (column p) X.β X.U (slack (commands p) (column p) X.β X.D X.U h j) j
  willing_side X j w = subst (λ z. Willing (commands p) (column p) X.β X.U z j) (slack_side p θ X j) w

  pub side_willing : (X : CornerOf p) (j : ℕ) → Willing (commands p) (column p) X.β X.U (slack (commands p) (column p) X.β X.D X.U h j) j → WillingAt p X θ j
  side_willing X j w = subst (λ z. Willing (commands p) (column p) X.β X.U z j) (sym (slack_side p θ X j)) w

  step_move : (X Y : CornerOf p) → Step p θ X Y → Move (commands p) (limits p) (column p) (suc (commands p)) (value p) (plant_value p) (suc (limits p)) (sides h) X Y
  step_move X Y s = record {
    j = s.enters;
    enters = s.known;
    willing = begins (commands p) (column p) X.β X.D X.U X.inverse h (limits p) s.enters s.known (willing_side X s.enters s.willing);
    to = neighbour (commands p) (limits p) (column p) (suc (commands p)) (value p) (plant_value p) X Y s.row s.enters s.known s.leaves s.across;
  }

  pub decide_willing : (X : CornerOf p) (j : ℕ) → j < limits p → Dec (WillingAt p X θ j)
  decide_willing X j l = elim (willing? (commands p) (column p) X.β X.D X.U X.inverse h (limits p) j l) [ yes w ↦ yes (side_willing X j w) | no n ↦ no (λ w. n (willing_side X j w)) ]

  -- A willing limit has a next corner, or its slack is negative and no row can leave.
  pub goes : (X : CornerOf p) (j : ℕ) → j < limits p → WillingAt p X θ j → ((slack_at p X θ j <ℤ pos 0) × HasNoRow p X j) ⊎ ((Y : CornerOf p) × Step p θ X Y)
  goes X j l w = by w
    where
      next : (q : ℕ) → q < commands p → pos 0 <ℤ entry p (column p) X.U q j → (Y : CornerOf p) × Step p θ X Y
      next q k t = let (r, e) = some_leaves p X j q k t in let (Y, x) = leads p X j r l e in (Y, record { enters = j; row = r; known = l; willing = w; leaves = e; across = x })

      by : WillingAt p X θ j → ((slack_at p X θ j <ℤ pos 0) × HasNoRow p X j) ⊎ ((Y : CornerOf p) × Step p θ X Y)
      by (tied z q k b t s) = inr (next q k t)
      by (negative short) = elim (any_below (commands p) (λ r. pos 0 <ℤ entry p (column p) X.U r j) (λ r k. above? (entry p (column p) X.U r j))) [
        | inl (q, k, t) ↦ inr (next q k t)
        | inr f ↦ inl (short, λ r k. elim (le_or_lt (entry p (column p) X.U r j) (pos 0)) [ inl u ↦ u | inr u ↦ absurd (f r k u) ])
      ]

pub standing_rows : StandingHoldsTheRows
standing_rows p X l c = (
  (λ r k e. subst (λ l. point (commands p) X.β X.U (unit l) c ≡ X.U r c) e (table_in (commands p) (column p) X.β X.D X.U X.inverse r k c)),
  λ out. table_out (commands p) (column p) X.β X.D X.U X.inverse l (λ s k e. out (s, k, sym e)) c,
)

pub step_falls : StandingFalls
step_falls p θ X Y s = move_falls (commands p) (limits p) (column p) (suc (commands p)) (value p) (plant_value p) (suc (limits p)) (sides (side p θ)) X Y (step_move p θ X Y s)

pub no_twice : NoBasisTwice
no_twice p θ X Y k c same = no_return (commands p) (limits p) (column p) (suc (commands p)) (value p) (plant_value p) (suc (limits p)) (sides (side p θ)) (chain_map _ _ (step_move p θ) c) same

pub short_run : RunsAreShort
short_run p θ X Y k c = run_bound (commands p) (limits p) (column p) (suc (commands p)) (value p) (plant_value p) (suc (limits p)) (sides (side p θ)) (chain_map _ _ (step_move p θ) c)

pub ended_or_on : EndedOrGoesOn
ended_or_on p θ X = elim (any_below (limits p) (λ j. WillingAt p X θ j) (decide_willing p θ X)) [
  | inr f ↦ inl (none_willing f)
  | inl (j, l, w) ↦ elim (goes p θ X j l w) [ inl (short, none) ↦ inl (blocked j l short none) | inr s ↦ inr s ]
]

run_on : (p : Meaning) (θ : List ℤ) (fuel : ℕ) (X Y : CornerOf p) (k : ℕ) → Run p θ X k Y → choose (limits p) (commands p) ≤ k + fuel → (k : ℕ) × (Y : CornerOf p) × Run p θ X k Y × Ended p θ Y
run_on p θ zero X Y k c l = absurd (omega (arith, short_run p θ X Y k c))
run_on p θ (suc fuel) X Y k c l = elim (ended_or_on p θ Y) [ inl e ↦ (k, Y, c, e) | inr (Z, s) ↦ run_on p θ fuel X Z (suc k) (more c s) (omega arith) ]

pub run_ends : RunsEnd
run_ends p θ X = run_on p θ (choose (limits p) (commands p)) X X 0 done (omega arith)

pub unwilling_region : (p : Meaning) (θ : List ℤ) (X : CornerOf p) → ((j : ℕ) → j < limits p → ¬ WillingAt p X θ j) → Region p X θ
unwilling_region p θ X f j l = elim (le_or_lt (pos 0) (slack_at p X θ j)) [ inl q ↦ q | inr q ↦ absurd (f j l (negative q)) ]

pub ends_answer : EndsAnswer
ends_answer p θ X (none_willing f) = inl (region_best p θ X (unwilling_region p θ X f))
ends_answer p θ X (blocked j l short none) = inr (blocked_no_command p θ X j l short none)

pub one_unwilling : OneCornerWithoutWillingLimits
one_unwilling p θ X Y f g = one_unwilling_corner (commands p) (limits p) (column p) (suc (commands p)) (value p) (plant_value p) (side p θ) X Y (λ j l w. f j l (side_willing p θ X j w)) (λ j l w. g j l (side_willing p θ Y j w))

-- A finished list is closed.
finished_closed : (p : Meaning) (k : ℕ) (C : ℕ → CornerOf p) → Finished p k C → Closed (commands p) (limits p) (column p) (suc (commands p)) (value p) (plant_value p) k C
finished_closed p k C f i l j lj out = elim (f i l j lj (λ (r, q, e). out r q e)) [
  | inl b ↦ inl b
  | inr (i', l', c) ↦ inr (i', l', neighbour (commands p) (limits p) (column p) (suc (commands p)) (value p) (plant_value p) (C i) (C i') c.row j lj c.leaves c.across)
]

pub finished_answers : FinishedListsAnswer
finished_answers p θ k C some f v keeps =
    let (i, l, g) = finished (commands p) (limits p) (column p) (suc (commands p)) (value p) (plant_value p) k C some (finished_closed p k C f) (side p θ) v.numerators v.denominator v.above keeps in
    (i, l, λ j q. omega (arith, lin, g j q, slack_side p θ (C i) j))

pub no_region : NoRegionMeansNoCommand
no_region p θ k C some closed f v keeps = let (i, l, r) = finished_answers p θ k C some closed v keeps in f i l r

pub stay_listed : RunsStayListed
stay_listed p θ k C f X Y t c = run_listed (commands p) (limits p) (column p) (suc (commands p)) (value p) (plant_value p) k C (finished_closed p k C f) (suc (limits p)) (sides (side p θ)) (chain_map _ _ (step_move p θ) c)
