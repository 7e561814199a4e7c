-- Solutions and slacks are linear in the right sides.
use Prim.Native.Nat.{ℕ, zero, suc, ◌<◌}
use mathlib.Core.Path.{◌≡◌, sym, ap, ◌∙◌}
use mathlib.Core.Logic.{inl, inr}
use native.Mathlib.Omega.{arith}
use lib.IntN.{ℤ, pos, ◌+ℤ◌, ◌-ℤ◌, ◌*ℤ◌}
use lib.Signed.{◌<ℤ◌}
use Rattle.exact.specs.Vectors.{sum, dot}
use Rattle.exact.proofs.Ring.{lin, le_or_lt, expand, one-*, *-assoc}
use Rattle.exact.proofs.Sums.{sum_cong, sum_swap, sum-*ˡ, sum-*ʳ, dot_cong, dot_comb}
use Rattle.tableau.specs.Points.{point, slack}
use Rattle.tableau.proofs.Exchange.{sum_lin}

-- Whether a number is above 0 can be decided.
pub above? : (x : ℤ) → Dec (pos 0 <ℤ x)
above? x = elim (le_or_lt x (pos 0)) [ inl l ↦ no (λ g. omega (arith, lin)) | inr g ↦ yes g ]

-- The first number of a sum apart.
pub sum_first : (n : ℕ) (f : ℕ → ℤ) → sum (suc n) f ≡ f 0 +ℤ sum n (λ i. f (suc i))
unfolding sum
sum_first zero f = omega (arith, lin)
sum_first (suc n) f = omega (arith, lin, sum_first n f)

module _ (m : ℕ) (a : ℕ → ℕ → ℤ) (β : ℕ → ℕ) (D : ℤ) (U : ℕ → ℕ → ℤ) (K : ℕ) (x : ℕ → ℤ) (H : ℕ → ℕ → ℤ) (h : ℕ → ℤ)
    (met : (r : ℕ) → r < m → h (β r) ≡ sum K (λ k. x k *ℤ H k (β r))) where
  pub point_comb : (c : ℕ) → sum K (λ k. x k *ℤ point m β U (H k) c) ≡ point m β U h c
  point_comb c =
      sum_cong K _ _ (λ k l. sym (sum-*ˡ m (x k) (λ r. H k (β r) *ℤ U r c)))
      ∙ sum_swap K m (λ k r. x k *ℤ (H k (β r) *ℤ U r c))
      ∙ sum_cong m _ _ (λ r l. sum_cong K _ _ (λ k q. sym (*-assoc (x k) (H k (β r)) (U r c))) ∙ sum-*ʳ K (U r c) (λ k. x k *ℤ H k (β r)) ∙ ap (λ z. z *ℤ U r c) (sym (met r l)))

  pub slack_comb : (j : ℕ) → h j ≡ sum K (λ k. x k *ℤ H k j) → sum K (λ k. x k *ℤ slack m a β D U (H k) j) ≡ slack m a β D U h j
  slack_comb j e =
      sum_cong K _ _ (λ k l. by D (x k) (H k j) (dot m (a j) (point m β U (H k))))
      ∙ sum_lin K D (pos 1) (λ k. x k *ℤ H k j) (λ k. x k *ℤ dot m (a j) (point m β U (H k)))
      ∙ omega (arith, lin, ap (λ z. D *ℤ z) e, one-* (sum K (λ k. x k *ℤ dot m (a j) (point m β U (H k)))), dot_comb m K (a j) x (λ k. point m β U (H k)), dot_cong m (a j) _ _ (λ c l. point_comb c))
    where
      by : (D x h y : ℤ) → x *ℤ (D *ℤ h -ℤ y) ≡ D *ℤ (x *ℤ h) -ℤ pos 1 *ℤ (x *ℤ y)
      by D x h y = rw (one-* (x *ℤ y)) (simp expand (omega (arith, lin)))
