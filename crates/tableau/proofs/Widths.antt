-- The columns of artificial limits hold no numbers but those of U and L, up to sign.
use Prim.Native.Nat.{ℕ, zero, suc, ◌+◌, ◌-◌, ◌*◌, ◌<◌, ◌≤◌}
use mathlib.Core.Path.{◌≡◌, refl, sym, ap, ◌∙◌, subst}
use native.Mathlib.Omega.{arith}
use native.Mathlib.Nat as NatL
use native.Mathlib.Decide.{dec_lt}
use lib.IntN.{ℤ, pos, negsuc, ◌*ℤ◌, neg_ℤ, nat_abs, *ℤ-zero}
use lib.ListN.{get_or-eq_default}
use Rattle.exact.specs.Bounds.{InWidth}
use Rattle.exact.specs.Vectors.{dot, entries}
use Rattle.exact.proofs.Ring.{lin}
use Rattle.exact.proofs.Sums.{dot_comm}
use Rattle.exact.proofs.Sizes.{abs_neg, abs_mul}
use Rattle.plant.specs.Meaning.{Meaning, Limit, no_limit}
use Rattle.plant.specs.Commands.{column}
use Rattle.tableau.specs.Artificial.{diag, sign_of}
use Rattle.tableau.specs.Plants.{commands, limits, rate, all_columns}
use Rattle.tableau.specs.Tableau.{entry, law, slack_rate}
use Rattle.tableau.specs.TheoremsWidth.{ArtificialLimitsAreInWidth}
use Rattle.tableau.proofs.Artificial.{dot_diag, extended_art}

sign_size : (x : ℤ) → nat_abs (sign_of x) ≡ 1
sign_size (pos n) = refl
sign_size (negsuc n) = refl

pub signed_width : (x y : ℤ) → InWidth x → InWidth (x *ℤ sign_of y)
signed_width x y h = omega (arith, abs_mul x (sign_of y), ap (λ (k : ℕ). nat_abs x * k) (sign_size y), NatL.mul-one (nat_abs x))

module _ (p : Meaning) where
  -- No constant and no slopes.
  pub no_rate : (k i : ℕ) → rate p k (limits p + i) ≡ pos 0
  no_rate zero i = ap (λ (l : Limit). l.constant) (get_or-eq_default p.limits no_limit {n = limits p + i} (omega arith))
  no_rate (suc k) i = ap (λ (l : Limit). entries l.slopes k) (get_or-eq_default p.limits no_limit {n = limits p + i} (omega arith))

  artificial_dot : (i : ℕ) → i < commands p → (x : ℕ → ℤ) → dot (commands p) (all_columns p (limits p + i)) x ≡ x i *ℤ sign_of (entries p.gains i)
  artificial_dot i l x = ap (λ f. dot (commands p) f x) (extended_art (limits p) (λ c. sign_of (entries p.gains c)) (column p) i) ∙ dot_comm (commands p) (diag (λ c. sign_of (entries p.gains c)) i) x ∙ dot_diag (commands p) x (λ c. sign_of (entries p.gains c)) i l

pub artificial_width : ArtificialLimitsAreInWidth
artificial_width p β D U w = record {
  denominator = w.denominator;
  row_gains = w.row_gains;
  rows = w.rows;
  entries = λ r j l k. elim (dec_lt j (limits p)) [ yes y ↦ w.entries r j l y | no n ↦ subst (λ j. InWidth (entry p (all_columns p) U r j)) (back j (omega arith)) (more_entries r (j - limits p) l (omega arith)) ];
  law_gains = w.law_gains;
  laws = w.laws;
  slack_rates = λ k j l q. elim (dec_lt j (limits p)) [ yes y ↦ w.slack_rates k j l y | no n ↦ subst (λ j. InWidth (slack_rate p (all_columns p) β D U k j)) (back j (omega arith)) (more_slacks k (j - limits p) l (omega arith)) ];
}
  where
    back : (j : ℕ) → limits p ≤ j → limits p + (j - limits p) ≡ j
    back j l = omega arith

    more_entries : (r i : ℕ) → r < commands p → i < commands p → InWidth (entry p (all_columns p) U r (limits p + i))
    more_entries r i l k = rw (artificial_dot p i k (U r)) (signed_width (U r i) (entries p.gains i) (w.rows r i l k))

    more_slacks : (k i : ℕ) → k ≤ p.readings → i < commands p → InWidth (slack_rate p (all_columns p) β D U k (limits p + i))
    more_slacks k i l q = subst InWidth (sym same) (rw (abs_neg (law p β U k i *ℤ sign_of (entries p.gains i))) (signed_width (law p β U k i) (entries p.gains i) (w.laws k i l q)))
      where
        same : slack_rate p (all_columns p) β D U k (limits p + i) ≡ neg_ℤ (law p β U k i *ℤ sign_of (entries p.gains i))
        same = omega (arith, lin, ap (λ z. D *ℤ z) (no_rate p k i), *ℤ-zero D, artificial_dot p i q (law p β U k))
