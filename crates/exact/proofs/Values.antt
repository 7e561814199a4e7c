-- The laws of value lists.
use Rattle.std.proofs.Common.{◌≡◌, ℕ, zero, suc, ◌<◌, ℤ, pos, ◌+ℤ◌, ◌-ℤ◌, ◌*ℤ◌, neg_ℤ, refl, ◌∙◌, arith}
use lib.IntN.{zero-*ℤ}
use Rattle.exact.specs.Vectors.{sum}
use Rattle.exact.specs.Value.{Value, full}
use Rattle.exact.proofs.Ring.{lin, neg-*ʳ, one-*}
use Rattle.exact.proofs.Sums.{dot_cong, dot_linear}

-- The list `full m b` is a value list.
pub full_value : (m : ℕ) (b : ℕ → ℤ) → Value m (suc m) (full m b)
full_value m b = record { wide = omega arith; cong = co; linear = li; faithful = λ x z c l. z (suc c) (omega arith) }
  where
    co : (x y : ℕ → ℤ) → ((c : ℕ) → c < m → x c ≡ y c) → (i : ℕ) → i < suc m → full m b x i ≡ full m b y i
    co x y h zero l = dot_cong m b x y h
    co x y h (suc c) l = h c (omega arith)

    li : (s t : ℤ) (x y : ℕ → ℤ) (i : ℕ) → i < suc m → full m b (λ c. s *ℤ x c +ℤ t *ℤ y c) i ≡ s *ℤ full m b x i +ℤ t *ℤ full m b y i
    li s t x y zero l = dot_linear m b s t x y
    li s t x y (suc c) l = refl

module _ (m w : ℕ) (V : (ℕ → ℤ) → ℕ → ℤ) (L : Value m w V) where
  value_nothing : (i : ℕ) → i < w → V (λ c. pos 0) i ≡ pos 0
  value_nothing i l = L.linear (pos 0) (pos 0) (λ c. pos 0) (λ c. pos 0) i l ∙ omega (arith, lin, zero-*ℤ (V (λ c. pos 0) i))

  pub value_scale : (k : ℤ) (x : ℕ → ℤ) (i : ℕ) → i < w → V (λ c. k *ℤ x c) i ≡ k *ℤ V x i
  value_scale k x i l = L.cong _ (λ c. k *ℤ x c +ℤ pos 0 *ℤ x c) (λ c q. omega (arith, lin, zero-*ℤ (x c))) i l ∙ L.linear k (pos 0) x x i l ∙ omega (arith, lin, zero-*ℤ (V x i))

  pub value_lin : (s t : ℤ) (x y : ℕ → ℤ) (i : ℕ) → i < w → V (λ c. s *ℤ x c -ℤ t *ℤ y c) i ≡ s *ℤ V x i -ℤ t *ℤ V y i
  value_lin s t x y i l = L.cong _ (λ c. s *ℤ x c +ℤ neg_ℤ t *ℤ y c) (λ c q. omega (arith, lin, neg-*ʳ t (y c))) i l ∙ L.linear s (neg_ℤ t) x y i l ∙ omega (arith, lin, neg-*ʳ t (V y i))

  pub value_comb : (n : ℕ) (k : ℕ → ℤ) (U : ℕ → ℕ → ℤ) (i : ℕ) → i < w → V (λ c. sum n (λ r. k r *ℤ U r c)) i ≡ sum n (λ r. k r *ℤ V (U r) i)
  unfolding sum
  value_comb zero k U i l = value_nothing i l
  value_comb (suc n) k U i l =
      L.cong _ (λ c. pos 1 *ℤ sum n (λ r. k r *ℤ U r c) +ℤ k n *ℤ U n c) (λ c q. omega (arith, lin, one-* (sum n (λ r. k r *ℤ U r c)))) i l
      ∙ L.linear (pos 1) (k n) (λ c. sum n (λ r. k r *ℤ U r c)) (U n) i l
      ∙ omega (arith, lin, one-* (V (λ c. sum n (λ r. k r *ℤ U r c)) i), value_comb n k U i l)
