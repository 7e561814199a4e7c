-- The basis of the artificial limits, and the direction Y of the search.
use Prim.Native.Nat.{ℕ, zero, suc, ◌+◌, ◌-◌, ◌<◌, ◌≤◌}
use mathlib.Core.Path.{◌≡◌, refl, sym, ap, ◌∙◌}
use mathlib.Core.Logic.{inl, inr}
use mathlib.Core.Bool.{Bool, true, false}
use native.Mathlib.Omega.{arith}
use native.Mathlib.Decide.{ℕ_discrete}
use lib.Dec.{ltb}
use borrow.Author.Tests.{ltb-true, ltb-false, lt-ltb, le-ltb}
use lib.IntN.{ℤ, pos, negsuc, ◌-ℤ◌, ◌*ℤ◌, neg_ℤ, zero-*ℤ, *ℤ-zero}
use lib.Signed.{◌<ℤ◌, ◌≤ℤ◌}
use Rattle.exact.specs.Vectors.{sum, dot}
use Rattle.exact.specs.Lists.{Positive}
use Rattle.exact.specs.Value.{Value}
use Rattle.exact.proofs.Ring.{lin, one-*, below, same, above, order}
use Rattle.exact.proofs.Sums.{sum_zero, sum_at}
use Rattle.exact.proofs.Positive.{pos_cong, pos_comb}
use Rattle.exact.proofs.Values.{value_comb}
use Rattle.tableau.specs.Basis.{Inverse}
use Rattle.tableau.specs.Points.{point}
use Rattle.tableau.specs.Artificial.{diag, sign_of, extended, is_artificial}
use Rattle.tableau.proofs.Simplex.{dot_point}
use Rattle.tableau.proofs.Willing.{unit_same, unit_other}

pub diag_same : (w : ℕ → ℤ) (i : ℕ) → diag w i i ≡ w i
diag_same w i = rw (unit_same i) (one-* (w i))

pub diag_other : (w : ℕ → ℤ) (i c : ℕ) → ¬ (i ≡ c) → diag w i c ≡ pos 0
diag_other w i c d = rw (unit_other i c d) (zero-*ℤ (w c))

pub dot_diag : (m : ℕ) (x w : ℕ → ℤ) (i : ℕ) → i < m → dot m x (diag w i) ≡ x i *ℤ w i
unfolding dot
dot_diag m x w i l = sum_at m i _ l (λ c k d. rw (diag_other w i c (λ e. d (sym e))) (*ℤ-zero (x c))) ∙ ap (λ z. x i *ℤ z) (diag_same w i)

pub extended_true : (n : ℕ) (w : ℕ → ℤ) (a : ℕ → ℕ → ℤ) (j : ℕ) → j < n → extended n w a j ≡ a j
extended_true n w a j l = rw (lt-ltb j n l)

pub extended_art : (n : ℕ) (w : ℕ → ℤ) (a : ℕ → ℕ → ℤ) (i : ℕ) → extended n w a (n + i) ≡ diag w i
extended_art n w a i = let e : (n + i) - n ≡ i = omega arith in rw (le-ltb (n + i) n (omega arith), e)

module _ (m n : ℕ) (a : ℕ → ℕ → ℤ) (w : ℕ → ℤ)
    (columns : (i : ℕ) → i < m → (c : ℕ) → c < m → a (n + i) c ≡ diag w i c)
    (ones : (i : ℕ) → i < m → w i *ℤ w i ≡ pos 1) where
  -- The artificial limits are a basis.
  pub first_basis : Inverse m a (λ i. n + i) (pos 1) (diag w)
  first_basis = record {
    dpos = omega (arith, lin);
    left_same = λ r l. dot_diag m (a (n + r)) w r l ∙ rw (columns r l r l, diag_same w r) (ones r l);
    left_other = λ r s l k d. dot_diag m (a (n + s)) w r l ∙ rw (columns s k r l, diag_other w s r (λ e. d (sym e))) (zero-*ℤ (w r));
    right_same = λ c l. sum_at m c _ l (λ r k d. rw (diag_other w r c d) (zero-*ℤ (a (n + r) c))) ∙ rw (columns c l c l, diag_same w c) (ones c l);
    right_other = λ c k lc lk d. sum_zero m _ (λ r l. elim (ℕ_discrete r c) [
      | yes e ↦ rw (columns r l k lk, diag_other w r k (λ f. d (sym f ∙ e))) (*ℤ-zero (diag w r c))
      | no f ↦ rw (diag_other w r c f) (zero-*ℤ (a (n + r) k))
    ]);
  }

pub sign_ones : (x : ℤ) → sign_of x *ℤ sign_of x ≡ pos 1
sign_ones (pos n) = refl
sign_ones (negsuc n) = refl

-- True limits and artificial ones.
data Kind (n j : ℕ) : Type 0 where
  true_limit : j < n → is_artificial n j ≡ pos 0 → Kind n j
  artificial : n ≤ j → is_artificial n j ≡ pos 1 → Kind n j

kind : (n j : ℕ) → Kind n j
kind n j = by (ltb j n) refl
  where
    by : (t : Bool) → ltb j n ≡ t → Kind n j
    by true e = true_limit (omega (arith, ltb-true, e)) (rw e)
    by false e = artificial (omega (arith, ltb-false, e)) (rw e)

artificial_nonneg : (n j : ℕ) → pos 0 ≤ℤ is_artificial n j
artificial_nonneg n j = elim (kind n j) [ true_limit l e ↦ omega (arith, lin) | artificial l e ↦ omega (arith, lin) ]

-- A positive sum has a positive part.
sum_pos : (n : ℕ) (f : ℕ → ℤ) → pos 0 <ℤ sum n f → (r : ℕ) × (r < n) × (pos 0 <ℤ f r)
unfolding sum
sum_pos zero f h = absurd (omega (arith, lin))
sum_pos (suc n) f h = elim (order (pos 0) (f n)) [
  | below l ↦ (n, omega arith, l)
  | same e ↦ let (r, l, p) = sum_pos n f (omega (arith, lin)) in (r, omega arith, p)
  | above l ↦ let (r, l, p) = sum_pos n f (omega (arith, lin)) in (r, omega arith, p)
]

module _ (m : ℕ) (a : ℕ → ℕ → ℤ) (β : ℕ → ℕ) (D : ℤ) (U : ℕ → ℕ → ℤ) (B : Inverse m a β D U) (n : ℕ) where
  -- A limit with a_j · Y > 0 has a row with T_rj > 0 that belongs to an artificial limit.
  pub leaves : (j : ℕ) → pos 0 <ℤ dot m (a j) (point m β U (is_artificial n)) → (r : ℕ) × (r < m) × (n ≤ β r) × (pos 0 <ℤ dot m (a j) (U r))
  leaves j h =
      let (r, l, p) = sum_pos m (λ r. is_artificial n (β r) *ℤ dot m (a j) (U r)) (rw (dot_point m a β D U B (a j) (is_artificial n)) at h) in
      elim (kind n (β r)) [
        | true_limit k e ↦ let z : is_artificial n (β r) *ℤ dot m (a j) (U r) ≡ pos 0 = rw e (zero-*ℤ (dot m (a j) (U r))) in absurd (omega (arith, lin))
        | artificial k e ↦ let z : is_artificial n (β r) *ℤ dot m (a j) (U r) ≡ dot m (a j) (U r) = rw e (one-* (dot m (a j) (U r))) in (r, l, k, omega (arith, lin))
      ]

  module _ (w : ℕ) (V : (ℕ → ℤ) → ℕ → ℤ) (L : Value m w V) (rows : (r : ℕ) → r < m → Positive w (V (U r))) where
    -- With an artificial limit in the basis, Y is better than standing still.
    pub no_best : (r : ℕ) → r < m → n ≤ β r → Positive w (V (point m β U (is_artificial n)))
    no_best r l k = elim (pos_comb w m (λ s. is_artificial n (β s)) (λ s. V (U s)) (λ s q. artificial_nonneg n (β s)) rows) [
      | inl z ↦ absurd (elim (kind n (β r)) [ true_limit q e ↦ omega arith | artificial q e ↦ omega (arith, lin, z r l) ])
      | inr p ↦ pos_cong w _ _ (λ i q. sym (value_comb m w V L m (λ s. is_artificial n (β s)) U i q)) p
    ]

-- The slack of a limit with a_j · Y > 0 is negative for the right sides `is_artificial n`, whose solution is Y.
pub start_begins : (m : ℕ) (a : ℕ → ℕ → ℤ) (β : ℕ → ℕ) (D : ℤ) (U : ℕ → ℕ → ℤ) (n j : ℕ) → j < n → pos 0 <ℤ dot m (a j) (point m β U (is_artificial n)) → Positive 1 (λ l. neg_ℤ (D *ℤ is_artificial n j -ℤ dot m (a j) (point m β U (is_artificial n))))
start_begins m a β D U n j true_j wrong = record {
  place = 0;
  inside = omega arith;
  zeros = λ i k. absurd (omega arith);
  lead =
      elim (kind n j) [ true_limit k e ↦ omega (arith, lin, ap (λ z. D *ℤ z) e, *ℤ-zero D) | artificial k e ↦ absurd (omega arith) ];
}
