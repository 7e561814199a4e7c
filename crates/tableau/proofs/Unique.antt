-- The limits of a basis determine its inverse.
use Prim.Native.Nat.{ℕ, ◌<◌}
use mathlib.Core.Path.{◌≡◌, sym, ap, ◌∙◌}
use lib.IntN.{ℤ, ◌*ℤ◌, *ℤ-zero, *ℤ_comm}
use Rattle.exact.specs.Vectors.{dot}
use Rattle.exact.specs.Value.{Value}
use Rattle.exact.proofs.Ring.{*-assoc}
use Rattle.exact.proofs.Sums.{sum_cong, sum_at, sum-*ˡ}
use Rattle.exact.proofs.Values.{value_scale}
use Rattle.tableau.specs.Basis.{Inverse, Among}
use Rattle.tableau.specs.Points.{point, unit}
use Rattle.tableau.proofs.Simplex.{dot_point, spread}
use Rattle.tableau.proofs.Willing.{table_in}

-- The solution meets the limits of the basis exactly.
pub meets : (m : ℕ) (a : ℕ → ℕ → ℤ) (β : ℕ → ℕ) (D : ℤ) (U : ℕ → ℕ → ℤ) (B : Inverse m a β D U) (h : ℕ → ℤ) (s : ℕ) → s < m → dot m (a (β s)) (point m β U h) ≡ D *ℤ h (β s)
meets m a β D U B h s l = dot_point m a β D U B (a (β s)) h ∙ sum_at m s _ l (λ r k d. rw (B.left_other r s k l d) (*ℤ-zero (h (β r)))) ∙ rw (B.left_same s l) (*ℤ_comm (h (β s)) D)

module _ (m : ℕ) (a : ℕ → ℕ → ℤ) (β : ℕ → ℕ) (D : ℤ) (U : ℕ → ℕ → ℤ) (B : Inverse m a β D U) (β' : ℕ → ℕ) (D' : ℤ) (U' : ℕ → ℕ → ℤ) (B' : Inverse m a β' D' U') where
  -- The same limits have the same solution, whatever the right sides.
  pub same_point : Among m β β' → (h : ℕ → ℤ) (c : ℕ) → c < m → D *ℤ point m β' U' h c ≡ D' *ℤ point m β U h c
  same_point among h c l =
      spread m a β D U B (point m β' U' h) c l
      ∙ sum_cong m _ _ (λ r k. ap (λ z. z *ℤ U r c) (met r k) ∙ *-assoc D' (h (β r)) (U r c))
      ∙ sum-*ˡ m D' (λ r. h (β r) *ℤ U r c)
    where
      met : (r : ℕ) → r < m → dot m (a (β r)) (point m β' U' h) ≡ D' *ℤ h (β r)
      met r k = let (s, q, e) = among r k in rw (← e) (meets m a β' D' U' B' h s q)

  pub same_value : Among m β β' → (w : ℕ) (V : (ℕ → ℤ) → ℕ → ℤ) (L : Value m w V) (h : ℕ → ℤ) (i : ℕ) → i < w → D *ℤ V (point m β' U' h) i ≡ D' *ℤ V (point m β U h) i
  same_value among w V L h i l = sym (value_scale m w V L D (point m β' U' h) i l) ∙ L.cong _ _ (same_point among h) i l ∙ value_scale m w V L D' (point m β U h) i l

  -- Two inverses of the same limits are proportional.
  pub tableau_unique : Among m β β' → (r s : ℕ) → r < m → s < m → β' s ≡ β r → (c : ℕ) → c < m → D *ℤ U' s c ≡ D' *ℤ U r c
  tableau_unique among r s lr ls e c l =
      ap (λ z. D *ℤ z) (sym (table_in m a β' D' U' B' s ls c) ∙ ap (λ k. point m β' U' (unit k) c) e)
      ∙ same_point among (unit (β r)) c l
      ∙ ap (λ z. D' *ℤ z) (table_in m a β D U B r lr c)
