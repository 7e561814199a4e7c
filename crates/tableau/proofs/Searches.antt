-- The search of a plant for its first corner.
use Prim.Native.Nat.{ℕ, zero, suc, ◌+◌, ◌*◌, ◌%◌, ◌<◌, ◌≤◌}
use mathlib.Core.Path.{◌≡◌, refl, sym, ap, ◌∙◌, subst}
use mathlib.Core.Logic.{inl, inr}
use native.Mathlib.Omega.{arith}
use native.Mathlib.Nat as NatL
use native.Mathlib.Decide.{dec_le}
use borrow.Author.Tests.{lt-ltb}
use lib.IntN.{ℤ, pos, negsuc, ◌-ℤ◌, ◌*ℤ◌, zero-*ℤ, *ℤ-zero}
use lib.Signed.{◌<ℤ◌, ◌≤ℤ◌}
use Rattle.exact.specs.Vectors.{dot, entries}
use Rattle.exact.specs.Lists.{Positive}
use Rattle.exact.specs.LowestTerms.{Lowest}
use Rattle.exact.proofs.Ring.{lin, le_or_lt}
use Rattle.exact.proofs.Positive.{pos_cong}
use Rattle.exact.proofs.Divides.{div_le}
use Rattle.exact.proofs.Finite.{any_below}
use Rattle.plant.specs.Meaning.{Meaning}
use Rattle.plant.specs.Commands.{column, value}
use Rattle.tableau.specs.Artificial.{diag, sign_of, is_artificial}
use Rattle.tableau.specs.Chain.{done, more}
use Rattle.tableau.specs.Choose.{choose}
use Rattle.tableau.specs.Plants.{commands, limits, all_columns, SearchCorner}
use Rattle.tableau.specs.Search.{direction, SearchStep, SearchRun, SearchEnded}
use Rattle.tableau.specs.TheoremsSearch.{ArtificialLimitsAreACorner, SearchFindsARow, SearchLimitsOfTheBasisAreMet, SearchedNumbersAreACorner, DirectionFallsAtEachStep, NoBasisTwiceInASearch, SearchesAreShort, SearchEndedOrGoesOn, SearchesEnd, TrueLimitsAreACorner, ArtificialLimitMeansABetterDirection, CornerOrBetterDirection}
use Rattle.tableau.proofs.Points.{above?}
use Rattle.tableau.proofs.Unique.{meets}
use Rattle.tableau.proofs.Chain.{chain_map}
use Rattle.tableau.proofs.Artificial.{diag_same, diag_other, dot_diag, sign_ones, extended_true, extended_art, first_basis, leaves, no_best, start_begins}
use Rattle.tableau.proofs.Permuted.{own_columns}
use Rattle.tableau.proofs.Pivots.{exchange_there, leaving_there}
use Rattle.tableau.proofs.Runs.{Move, neighbour, replaced, move_falls, no_return, run_bound, after}
use Rattle.tableau.proofs.Readings.{plant_value}

module _ (p : Meaning) where
  abbrev w : ℕ → ℤ
  w c = sign_of (entries p.gains c)

  -- The rows of the artificial basis have positive value lists.
  pub first_positive : (i : ℕ) → i < commands p → Positive (suc (commands p)) (value p (diag w i))
  first_positive i l = by (entries p.gains i) refl
    where
      gain : pos 0 <ℤ (entries p.gains i *ℤ w i) → Positive (suc (commands p)) (value p (diag w i))
      gain g = record { place = 0; inside = omega arith; zeros = λ c k. absurd (omega arith); lead = rw (dot_diag (commands p) (entries p.gains) w i l) g }

      zs : entries p.gains i ≡ pos 0 → (c : ℕ) → c < suc i → value p (diag w i) c ≡ pos 0
      zs e zero k = dot_diag (commands p) (entries p.gains) w i l ∙ rw e (zero-*ℤ (pos 1))
      zs e (suc c) k = diag_other w i c (omega arith)

      by : (z : ℤ) → entries p.gains i ≡ z → Positive (suc (commands p)) (value p (diag w i))
      by (pos zero) e = record { place = suc i; inside = omega arith; zeros = zs e; lead = rw (diag_same w i, e) (omega (arith, lin)) }
      by (pos (suc n)) e = gain (rw e (omega (arith, lin)))
      by (negsuc n) e = gain (rw e (omega (arith, lin)))

  pub one_lowest : (U : ℕ → ℕ → ℤ) → Lowest (commands p) (pos 1) U
  one_lowest U d pd dD dU = let l : d ≤ℤ pos 1 = div_le d (pos 1) pd (omega (arith, lin)) dD in omega (arith, lin)

  -- A true limit has its own column.
  own : (X : SearchCorner p) (j : ℕ) → j < limits p → dot (commands p) (column p j) (direction p X) ≡ dot (commands p) (all_columns p j) (direction p X)
  own X j l = ap (λ f. dot (commands p) f (direction p X)) (sym (extended_true (limits p) w (column p) j l))

  step_move : (X Y : SearchCorner p) → SearchStep p X Y → Move (commands p) (limits p + commands p) (all_columns p) (suc (commands p)) (value p) (plant_value p) 1 (λ l. is_artificial (limits p)) X Y
  step_move X Y s = record {
    j = s.enters;
    enters = omega (arith, s.true_limit);
    willing = start_begins (commands p) (all_columns p) X.β X.D X.U (limits p) s.enters s.true_limit (rw (own X s.enters s.true_limit) at s.stops);
    to = neighbour (commands p) (limits p + commands p) (all_columns p) (suc (commands p)) (value p) (plant_value p) X Y s.row s.enters (omega (arith, s.true_limit)) s.leaves s.across;
  }

unfoldable pub first_corner : ArtificialLimitsAreACorner
first_corner p = (
  record {
    β = λ i. limits p + i;
    D = pos 1;
    U = diag (w p);
    known = λ r l. omega arith;
    inverse = first_basis (commands p) (limits p) (all_columns p) (w p) (λ i l c k. ap (λ f. f c) (extended_art (limits p) (w p) (column p) i)) (λ i l. sign_ones (entries p.gains i));
    lowest = one_lowest p (diag (w p));
    rows = first_positive p;
  },
  (λ r l. refl),
  refl,
)

pub search_row : SearchFindsARow
search_row p X j l stops =
    let (q, k, old, t) = leaves (commands p) (all_columns p) X.β X.D X.U X.inverse (limits p) j (rw (own p X j l) at stops) in
    leaving_there (commands p) (all_columns p) X.β X.D X.U X.inverse (suc (commands p)) (value p) j q k t

pub search_met : SearchLimitsOfTheBasisAreMet
search_met p X r l known =
    own p X (X.β r) known ∙ meets (commands p) (all_columns p) X.β X.D X.U X.inverse (is_artificial (limits p)) r l ∙ rw (lt-ltb (X.β r) (limits p) known) (*ℤ-zero X.D)

pub search_numbers : SearchedNumbersAreACorner
search_numbers p X j r known leaves g β' D' U' e low =
    (after (commands p) (limits p + commands p) (all_columns p) (suc (commands p)) (value p) (plant_value p) X r j g β' D' U' (omega arith) leaves e low, replaced (commands p) (all_columns p) X.β X.D X.U r j g β' D' U' e, refl, refl, refl)

pub direction_falls : DirectionFallsAtEachStep
direction_falls p X Y s =
    let w = suc (commands p) in
    let one : 1 * w ≡ w = omega arith in
    pos_cong w _ _ (λ i l. ap (λ k. Y.D *ℤ value p (direction p X) k -ℤ X.D *ℤ value p (direction p Y) k) (NatL.mod-eq_of_lt l))
    (subst (λ n. Positive n (λ i. Y.D *ℤ value p (direction p X) (i % w) -ℤ X.D *ℤ value p (direction p Y) (i % w))) one
    (move_falls (commands p) (limits p + commands p) (all_columns p) w (value p) (plant_value p) 1 (λ l. is_artificial (limits p)) X Y (step_move p X Y s)))

pub search_no_twice : NoBasisTwiceInASearch
search_no_twice p X Y k c same = no_return (commands p) (limits p + commands p) (all_columns p) (suc (commands p)) (value p) (plant_value p) 1 (λ l. is_artificial (limits p)) (chain_map _ _ (step_move p) c) same

pub search_short : SearchesAreShort
search_short p X Y k c = run_bound (commands p) (limits p + commands p) (all_columns p) (suc (commands p)) (value p) (plant_value p) 1 (λ l. is_artificial (limits p)) (chain_map _ _ (step_move p) c)

pub search_on : SearchEndedOrGoesOn
search_on p X = elim (any_below (limits p) (λ j. pos 0 <ℤ dot (commands p) (column p j) (direction p X)) (λ j l. above? (dot (commands p) (column p j) (direction p X)))) [
  | inr f ↦ inl (λ j l. elim (le_or_lt (dot (commands p) (column p j) (direction p X)) (pos 0)) [ inl u ↦ u | inr u ↦ absurd (f j l u) ])
  | inl (j, l, stops) ↦
      let (r, x) = search_row p X j l stops in
      let e = exchange_there (commands p) (all_columns p) X.β X.D X.U X.inverse r j x.inside x.above in
      let (Y, across, eβ, eD, eU) = search_numbers p X j r l x e.g e.β' e.D' e.U' e.exchanged e.lowest in
      inr (Y, record { enters = j; row = r; true_limit = l; stops = stops; leaves = x; across = across })
]

search_to : (p : Meaning) (fuel : ℕ) (X Y : SearchCorner p) (k : ℕ) → SearchRun p X k Y → choose (limits p + commands p) (commands p) ≤ k + fuel → (k : ℕ) × (Y : SearchCorner p) × SearchRun p X k Y × SearchEnded p Y
search_to p zero X Y k c l = absurd (omega (arith, search_short p X Y k c))
search_to p (suc fuel) X Y k c l = elim (search_on p Y) [ inl e ↦ (k, Y, c, e) | inr (Z, s) ↦ search_to p fuel X Z (suc k) (more c s) (omega arith) ]

pub search_ends : SearchesEnd
search_ends p X = search_to p (choose (limits p + commands p) (commands p)) X X 0 done (omega arith)

pub true_limits : TrueLimitsAreACorner
true_limits p X known = (
  record {
    β = X.β;
    D = X.D;
    U = X.U;
    known = known;
    inverse = own_columns (commands p) (all_columns p) (column p) X.β X.β X.D X.U (λ r c l k. ap (λ f. f c) (extended_true (limits p) (w p) (column p) (X.β r) (known r l))) X.inverse;
    lowest = X.lowest;
    rows = X.rows;
  },
  refl,
  refl,
  refl,
)

pub better_direction : ArtificialLimitMeansABetterDirection
better_direction p X r l old ended = (ended, no_best (commands p) (all_columns p) X.β X.D X.U X.inverse (limits p) (suc (commands p)) (value p) (plant_value p) X.rows r l old)

pub corner_or_direction : CornerOrBetterDirection
corner_or_direction p =
    let (k, X, c, ended) = search_ends p (first_corner p).0 in
    elim (any_below (commands p) (λ r. limits p ≤ X.β r) (λ r l. dec_le (limits p) (X.β r))) [
      | inl (r, l, old) ↦ let (f, b) = better_direction p X r l old ended in inr (direction p X, f, b)
      | inr f ↦ inl (true_limits p X (λ r l. let g : ¬ (limits p ≤ X.β r) = f r l in omega arith)).0
    ]
