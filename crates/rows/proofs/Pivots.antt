-- The numerators of an exchange.
use Rattle.std.proofs.Common.{◌≡◌, ℕ, zero, suc, ◌<◌, List, ℤ, ◌-ℤ◌, ◌*ℤ◌, sym, refl, subst, arith}
use Rattle.std.proofs.lemmas.Bool.{eq-eqb, ne_eqb}
use Rattle.exact.specs.Vectors.{first_then}
use Rattle.exact.specs.Divisors.{Divides, Gcd}
use Rattle.rows.specs.Cells.{cell}
use Rattle.rows.specs.Pivots.{numerator_of}

module _ (D : ℤ) (w p column : ℕ) (xs : List ℤ) (s c : ℕ) where
  -- in the pivot row
  pub numerator_pivot : s ≡ p → numerator_of D w p column xs s c ≡ D *ℤ cell w xs p c
  unfolding numerator_of
  numerator_pivot e = rw (eq-eqb s p e)

  -- in another row
  pub numerator_other : (s ≡ p → ⊥) → numerator_of D w p column xs s c ≡ cell w xs p column *ℤ cell w xs s c -ℤ cell w xs s column *ℤ cell w xs p c
  unfolding numerator_of
  numerator_other n = rw (ne_eqb s p n)

-- Numbers that are equal have the same greatest common divisor.
pub gcd_cong : (n : ℕ) (f h : ℕ → ℤ) (g : ℤ) → ((i : ℕ) → i < n → f i ≡ h i) → Gcd n f g → Gcd n h g
gcd_cong n f h g e G = record {
  nonneg = G.nonneg;
  divides = λ i l. subst (Divides g) (e i l) (G.divides i l);
  greatest = λ d c. G.greatest d (λ i l. subst (Divides d) (sym (e i l)) (c i l));
}

-- A first number, and then numbers that are equal.
pub first_then_cong : (n : ℕ) (x : ℤ) (f h : ℕ → ℤ) → ((i : ℕ) → i < n → f i ≡ h i) → (i : ℕ) → i < suc n → first_then x f i ≡ first_then x h i
first_then_cong n x f h e zero l = refl
first_then_cong n x f h e (suc i) l = e i (omega arith)
