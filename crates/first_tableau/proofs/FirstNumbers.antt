-- The numbers of the tableau of the artificial limits.
use Rattle.std.proofs.Common.{◌≡◌, ℕ, zero, suc, ◌+◌, ◌<◌, ◌≤◌, ℤ, pos, negsuc, ◌*ℤ◌, sym, ap, ◌∙◌, subst, arith}
use native.Mathlib.Decide.{ℕ_discrete}
use lib.IntN.{zero-*ℤ, *ℤ-zero}
use Rattle.exact.specs.Bounds.{InWidth}
use Rattle.exact.specs.Vectors.{dot, entries}
use Rattle.exact.proofs.Ring.{lin, one-*}
use Rattle.exact.proofs.Sums.{sum_zero}
use Rattle.words.specs.Bounds.{Value}
use Rattle.plant.specs.Meaning.{Meaning, Bounded}
use Rattle.plant.specs.Commands.{column}
use Rattle.plant.proofs.Describing.{value_size}
use Rattle.tableau.specs.Artificial.{sign_of}
use Rattle.tableau.specs.Plants.{commands, limits, rate, all_columns}
use Rattle.tableau.specs.Tableau.{row_gain, entry, law, law_gain, slack_rate, TableauInWidth}
use Rattle.tableau.proofs.Artificial.{diag_same, diag_other, dot_diag, extended_true}
use Rattle.tableau.proofs.Widths.{no_rate, signed_width}
use Rattle.plant_table.proofs.Answered.{gain_answered, coefficient_answered, constant_answered, slope_answered}
use Rattle.first_tableau.specs.First.{first_inverse}

-- A dot product with zeros.
dot_zeros : (m : ℕ) (x y : ℕ → ℤ) → ((c : ℕ) → c < m → y c ≡ pos 0) → dot m x y ≡ pos 0
unfolding dot
dot_zeros m x y e = sum_zero m _ (λ c l. ap (λ z. x c *ℤ z) (e c l) ∙ *ℤ-zero (x c))

value_width : (z : ℤ) → Value z → InWidth z
value_width z v = omega (arith, value_size z v)

sign_width : (z : ℤ) → InWidth (sign_of z)
sign_width (pos n) = omega arith
sign_width (negsuc n) = omega arith

module _ (p : Meaning) where
  abbrev β : ℕ → ℕ
  β i = limits p + i

  abbrev U : ℕ → ℕ → ℤ
  U = first_inverse p

  abbrev sign : ℕ → ℤ
  sign i = sign_of (entries p.gains i)

  pub first_gain : (r : ℕ) → r < commands p → row_gain p U r ≡ entries p.gains r *ℤ sign r
  first_gain r l = dot_diag (commands p) (entries p.gains) sign r l

  pub first_entry : (r j : ℕ) → r < commands p → j < limits p → entry p (all_columns p) U r j ≡ column p j r *ℤ sign r
  first_entry r j l k = dot_diag (commands p) (all_columns p j) sign r l ∙ ap (λ f. f r *ℤ sign r) (extended_true (limits p) sign (column p) j k)

  pub first_law : (k c : ℕ) → law p β U k c ≡ pos 0
  first_law k c = sum_zero (commands p) _ (λ r l. ap (λ z. z *ℤ U r c) (no_rate p k r) ∙ zero-*ℤ (U r c))

  pub first_law_gain : (k : ℕ) → law_gain p β U k ≡ pos 0
  first_law_gain k = dot_zeros (commands p) (entries p.gains) (law p β U k) (λ c l. first_law k c)

  pub first_slack : (k j : ℕ) → slack_rate p (all_columns p) β (pos 1) U k j ≡ rate p k j
  first_slack k j =
      let one = one-* (rate p k j) in
      let none = dot_zeros (commands p) (all_columns p j) (law p β U k) (λ c l. first_law k c) in
      omega (arith, lin)

  inverse_width : (r c : ℕ) → InWidth (U r c)
  inverse_width r c = elim (ℕ_discrete r c) [
    | yes e ↦ subst InWidth (sym (subst (λ (x : ℕ). U r x ≡ sign x) e (diag_same sign r))) (sign_width (entries p.gains c))
    | no d ↦ subst InWidth (sym (diag_other sign r c d)) (omega arith)
  ]

  module _ (B : Bounded p) where
    rate_value : (k j : ℕ) → k ≤ p.readings → j < limits p → Value (rate p k j)
    rate_value zero j l q = (constant_answered p B j q).value
    rate_value (suc k) j l q = (slope_answered p B j q k (omega arith)).value

    pub first_in_width : TableauInWidth p (limits p) (all_columns p) β (pos 1) U
    first_in_width = record {
      denominator = omega arith;
      row_gains = λ r l. subst InWidth (sym (first_gain r l)) (signed_width _ (entries p.gains r) (value_width _ (gain_answered p B r l).value));
      rows = λ r i l k. inverse_width r i;
      entries = λ r j l k. subst InWidth (sym (first_entry r j l k)) (signed_width _ (entries p.gains r) (value_width _ (coefficient_answered p B j k r l).value));
      law_gains = λ k l. subst InWidth (sym (first_law_gain k)) (omega arith);
      laws = λ k i l q. subst InWidth (sym (first_law k i)) (omega arith);
      slack_rates = λ k j l q. subst InWidth (sym (first_slack k j)) (value_width _ (rate_value k j l q));
    }
