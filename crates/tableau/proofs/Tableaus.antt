-- A basis has one tableau.
use Prim.Native.Nat.{ℕ, ◌<◌}
use mathlib.Core.Path.{◌≡◌, sym, ap, ◌∙◌}
use lib.IntN.{ℤ, pos, ◌*ℤ◌, *ℤ-zero, *ℤ_comm}
use Rattle.exact.specs.Vectors.{sum, dot}
use Rattle.exact.proofs.Ring.{zero_of_mul}
use Rattle.exact.proofs.Sums.{sum_at, dot_comb, dot_comm, dot_cong}
use Rattle.exact.proofs.Lowest.{Terms, terms}
use Rattle.tableau.specs.Basis.{Inverse}
use Rattle.tableau.specs.Tableau.{Tableau}
use Rattle.tableau.specs.TheoremsBasis.{BasisHasATableau, TableauMeansABasis, OneTableau, DenominatorIsLeast, LeastDenominatorIsATableau}
use Rattle.tableau.proofs.Exchange.{dot_zero}
use Rattle.tableau.proofs.Lowest.{divided, lowest_d, lowest_u, lowest_smallest, smallest_lowest}
use Rattle.tableau.proofs.Independent.{invertible}

pub tableau_there : BasisHasATableau
tableau_there m n a β basis = let (E, V, B) = invertible m a β basis.independent in by E V B (terms m E V B.dpos)
  where
    by : (E : ℤ) (V : ℕ → ℕ → ℤ) → Inverse m a β E V → Terms m E V → (D : ℤ) × (U : ℕ → ℕ → ℤ) × Tableau m a β D U
    by E V B t = (t.D, t.U, record { inverse = divided m a β E V t.g t.D t.U B t.gpos t.over t.rows; lowest = t.lowest })

pub tableau_basis : TableauMeansABasis
tableau_basis m n a β D U known t = record { known = known; independent = free }
  where
    free : (k : ℕ → ℤ) → ((c : ℕ) → c < m → sum m (λ r. k r *ℤ a (β r) c) ≡ pos 0) → (s : ℕ) → s < m → k s ≡ pos 0
    free k z s l = zero_of_mul (k s) D t.inverse.dpos (*ℤ_comm D (k s)
        ∙ sym (sum_at m s (λ r. k r *ℤ dot m (U s) (a (β r))) l (λ r q d. rw (dot_comm m (U s) (a (β r)), t.inverse.left_other s r l q (λ e. d (sym e))) (*ℤ-zero (k r))) ∙ ap (λ z. k s *ℤ z) (dot_comm m (U s) (a (β s)) ∙ t.inverse.left_same s l))
        ∙ sym (dot_comb m m (U s) k (λ r. a (β r))) ∙ dot_cong m (U s) _ (λ c. pos 0) z ∙ dot_zero m (U s))

pub one_tableau : OneTableau
one_tableau m a β D U β' D' U' t t' among =
    (lowest_d m a β D U t.inverse β' D' U' t'.inverse among t.lowest t'.lowest, lowest_u m a β D U t.inverse β' D' U' t'.inverse among t.lowest t'.lowest)

pub least_denominator : DenominatorIsLeast
least_denominator m a β D U t = lowest_smallest m a β D U t.inverse t.lowest

pub smallest_tableau : LeastDenominatorIsATableau
smallest_tableau m a β D U B small = record { inverse = B; lowest = smallest_lowest m a β D U B small }
