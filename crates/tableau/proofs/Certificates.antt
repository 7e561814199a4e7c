-- Weights, and why they show that no command keeps the limits.
use Prim.Native.Nat.{ℕ, ◌<◌}
use mathlib.Core.Path.{◌≡◌, sym, ap, ◌∙◌}
use mathlib.Core.List.{List}
use mathlib.Core.Logic.{inl, inr}
use native.Mathlib.Omega.{arith}
use native.Mathlib.Decide.{ℕ_discrete}
use lib.IntN.{ℤ, pos, ◌-ℤ◌, ◌*ℤ◌, neg_ℤ, *ℤ-zero, *ℤ_comm}
use lib.Signed.{◌<ℤ◌, ◌≤ℤ◌}
use Rattle.exact.specs.Vectors.{sum, dot}
use Rattle.exact.proofs.Ring.{lin, expand, one-*, *-assoc, mul_mono, neg_pos}
use Rattle.exact.proofs.Sums.{sum_cong, sum_zero, sum_at, sum_swap, sum-*ˡ, sum-*ʳ, sum-≤, dot_comb, dot_comm, dot_cong}
use Rattle.exact.proofs.Finite.{any_below}
use Rattle.plant.specs.Meaning.{Meaning}
use Rattle.plant.specs.Commands.{column, side}
use Rattle.tableau.specs.Points.{unit}
use Rattle.tableau.specs.Plants.{commands, limits, CornerOf}
use Rattle.tableau.specs.Readings.{slack_at}
use Rattle.tableau.specs.Runs.{InBasis}
use Rattle.tableau.specs.Certificate.{Weights}
use Rattle.tableau.specs.TheoremsCorner.{WeightsExist, WeightsAreACertificate, CertificateMeansNoCommand}
use Rattle.tableau.proofs.Simplex.{dual_spread, dot_point}
use Rattle.tableau.proofs.Exchange.{dot_zero, sum_lin}
use Rattle.tableau.proofs.Willing.{injective, unit_same, unit_other, sum_unit}
use Rattle.tableau.proofs.Unique.{meets}
use Rattle.tableau.proofs.Readings.{slack_side}

pub certificate_none : CertificateMeansNoCommand
certificate_none p θ y C v keeps =
    let m = commands p in
    let n = limits p in
    let e₁ : dot m v.numerators (λ c. sum n (λ l. y l *ℤ column p l c)) ≡ sum n (λ l. y l *ℤ dot m v.numerators (column p l)) = dot_comb m n v.numerators y (column p) in
    let e₂ : dot m v.numerators (λ c. sum n (λ l. y l *ℤ column p l c)) ≡ pos 0 = dot_cong m v.numerators _ (λ c. pos 0) C.columns ∙ dot_zero m v.numerators in
    let e₃ : sum n (λ l. y l *ℤ dot m v.numerators (column p l)) ≤ℤ sum n (λ l. v.denominator *ℤ (y l *ℤ side p θ l)) = sum-≤ n _ _ (λ l k. by (y l) (dot m v.numerators (column p l)) v.denominator (side p θ l) (C.nonneg l k) (rw (dot_comm m v.numerators (column p l)) (keeps l k))) in
    omega (arith, lin, e₁, e₂, e₃, sum-*ˡ n v.denominator (λ l. y l *ℤ side p θ l), *ℤ_comm v.denominator (sum n (λ l. y l *ℤ side p θ l)), neg_pos (sum n (λ l. y l *ℤ side p θ l)) v.denominator C.sides v.above)
  where
    by : (y x s h : ℤ) → pos 0 ≤ℤ y → x ≤ℤ (s *ℤ h) → (y *ℤ x) ≤ℤ (s *ℤ (y *ℤ h))
    by y x s h p k = omega (arith, lin, mul_mono x (s *ℤ h) y k p, *ℤ_comm x y, turn s h y)
      where
        turn : (s h y : ℤ) → (s *ℤ h) *ℤ y ≡ s *ℤ (y *ℤ h)
        turn s h y = simp expand

module _ (p : Meaning) (X : CornerOf p) (j : ℕ) (known : j < limits p) (outside : ¬ InBasis p X j) where
  abbrev T : ℕ → ℤ
  T r = dot (commands p) (column p j) (X.U r)

  -- The weights by a formula.
  formula : ℕ → ℤ
  formula l = X.D *ℤ unit j l -ℤ pos 1 *ℤ sum (commands p) (λ r. T r *ℤ unit (X.β r) l)

  at_row : (q : ℕ) → q < commands p → sum (commands p) (λ r. T r *ℤ unit (X.β r) (X.β q)) ≡ T q
  at_row q l = sum_at (commands p) q _ l (λ r k d. rw (unit_other (X.β r) (X.β q) (λ e. d (injective (commands p) (column p) X.β X.D X.U X.inverse r q k l e))) (*ℤ-zero (T r)))
      ∙ rw (unit_same (X.β q)) (*ℤ_comm (T q) (pos 1) ∙ one-* (T q))

  off_rows : (l : ℕ) → ¬ InBasis p X l → sum (commands p) (λ r. T r *ℤ unit (X.β r) l) ≡ pos 0
  off_rows l out = sum_zero (commands p) _ (λ r k. rw (unit_other (X.β r) l (λ e. out (r, k, e))) (*ℤ-zero (T r)))

  formula_own : formula j ≡ X.D
  unfolding formula
  formula_own = rw (unit_same j, off_rows j outside) (omega (arith, lin, *ℤ_comm X.D (pos 1), one-* X.D, one-* (pos 0)))

  formula_row : (r : ℕ) → r < commands p → formula (X.β r) ≡ neg_ℤ (T r)
  unfolding formula
  formula_row r l = rw (at_row r l, unit_other j (X.β r) (λ e. outside (r, l, sym e))) (omega (arith, lin, *ℤ-zero X.D, one-* (T r)))

  formula_other : (l : ℕ) → ¬ (l ≡ j) → ¬ InBasis p X l → formula l ≡ pos 0
  unfolding formula
  formula_other l d out = rw (off_rows l out, unit_other j l (λ e. d (sym e))) (omega (arith, lin, *ℤ-zero X.D, one-* (pos 0)))

  pub weights_there : (y : ℕ → ℤ) × Weights p X j y
  weights_there = (formula, record { own = formula_own; rows = formula_row; others = λ l k. formula_other l })

  weights_are : (y : ℕ → ℤ) → Weights p X j y → (l : ℕ) → l < limits p → y l ≡ formula l
  weights_are y w l k = elim (ℕ_discrete l j) [
    | yes e ↦ rw e (w.own ∙ sym formula_own)
    | no d ↦ elim (any_below (commands p) (λ r. X.β r ≡ l) (λ r q. ℕ_discrete (X.β r) l)) [
      | inl (r, q, e) ↦ rw (← e) (w.rows r q ∙ sym (formula_row r q))
      | inr out ↦ let f : ¬ InBasis p X l = λ (r, q, e). out r q e in w.others l k d f ∙ sym (formula_other l d f)
    ]
  ]

  -- What is weighted so adds up to D f_j - Σ_r T_rj f_r.
  pub weighted_sum : (y f : ℕ → ℤ) → Weights p X j y → sum (limits p) (λ l. y l *ℤ f l) ≡ X.D *ℤ f j -ℤ sum (commands p) (λ r. T r *ℤ f (X.β r))
  unfolding formula
  weighted_sum y f w =
      sum_cong (limits p) _ _ (λ l k. ap (λ z. z *ℤ f l) (weights_are y w l k) ∙ by X.D (unit j l) (sum (commands p) (λ r. T r *ℤ unit (X.β r) l)) (f l))
      ∙ sum_lin (limits p) X.D (pos 1) (λ l. unit j l *ℤ f l) (λ l. sum (commands p) (λ r. T r *ℤ unit (X.β r) l) *ℤ f l)
      ∙ omega (arith, lin, ap (λ z. X.D *ℤ z) (sum_unit (limits p) j f known), one-* (sum (limits p) (λ l. sum (commands p) (λ r. T r *ℤ unit (X.β r) l) *ℤ f l)), rows)
    where
      by : (D u s f : ℤ) → (D *ℤ u -ℤ pos 1 *ℤ s) *ℤ f ≡ D *ℤ (u *ℤ f) -ℤ pos 1 *ℤ (s *ℤ f)
      by D u s f = simp expand (omega (arith, lin))

      rows : sum (limits p) (λ l. sum (commands p) (λ r. T r *ℤ unit (X.β r) l) *ℤ f l) ≡ sum (commands p) (λ r. T r *ℤ f (X.β r))
      rows =
          sum_cong (limits p) _ _ (λ l k. sym (sum-*ʳ (commands p) (f l) (λ r. T r *ℤ unit (X.β r) l)))
          ∙ sum_swap (limits p) (commands p) (λ l r. (T r *ℤ unit (X.β r) l) *ℤ f l)
          ∙ sum_cong (commands p) _ _ (λ r k. sum_cong (limits p) _ _ (λ l q. *-assoc (T r) (unit (X.β r) l) (f l)) ∙ sum-*ˡ (limits p) (T r) (λ l. unit (X.β r) l *ℤ f l)
          ∙ ap (λ z. T r *ℤ z) (sum_unit (limits p) (X.β r) f (X.known r k)))

-- A limit with negative slack is outside the basis.
pub negative_outside : (p : Meaning) (θ : List ℤ) (X : CornerOf p) (j : ℕ) → slack_at p X θ j <ℤ pos 0 → ¬ InBasis p X j
negative_outside p θ X j short (r, l, e) = omega (arith, lin, short, slack_side p θ X j, rw e at (meets (commands p) (column p) X.β X.D X.U X.inverse (side p θ) r l))

pub weights_certify : WeightsAreACertificate
weights_certify p θ X j y known short blocked w = record { nonneg = nonneg; columns = columns; sides = below }
  where
    outside : ¬ InBasis p X j
    outside = negative_outside p θ X j short

    nonneg : (l : ℕ) → l < limits p → pos 0 ≤ℤ y l
    nonneg l k = elim (ℕ_discrete l j) [
      | yes e ↦ rw (e, w.own) (omega (arith, lin, X.inverse.dpos))
      | no d ↦ elim (any_below (commands p) (λ r. X.β r ≡ l) (λ r q. ℕ_discrete (X.β r) l)) [
        | inl (r, q, e) ↦ rw (← e, w.rows r q) (omega (arith, lin, blocked r q))
        | inr out ↦ rw (w.others l k d (λ (r, q, e). out r q e)) (omega (arith, lin))
      ]
    ]

    columns : (c : ℕ) → c < commands p → sum (limits p) (λ l. y l *ℤ column p l c) ≡ pos 0
    columns c k = weighted_sum p X j known outside y (λ l. column p l c) w ∙ omega (arith, lin, dual_spread (commands p) (column p) X.β X.D X.U X.inverse (column p j) c k)

    below : sum (limits p) (λ l. y l *ℤ side p θ l) <ℤ pos 0
    below = omega (
      arith,
      lin,
      weighted_sum p X j known outside y (side p θ) w,
      short,
      slack_side p θ X j,
      dot_point (commands p) (column p) X.β X.D X.U X.inverse (column p j) (side p θ),
      sum_cong (commands p) _ _ (λ r l. *ℤ_comm (dot (commands p) (column p j) (X.U r)) (side p θ (X.β r))),
    )

pub weights_exist : WeightsExist
weights_exist p X j known outside = weights_there p X j known outside
