-- Corners: bases that are feasible for every small perturbation of the objective.
use Rattle.std.specs.Prelude.{ℕ, ◌*◌, ◌<◌, ℤ}
use Rattle.exact.specs.Lists.{Positive, Before}
use Rattle.exact.specs.LowestTerms.{Lowest}
use Rattle.tableau.specs.Basis.{Inverse}
use Rattle.tableau.specs.Points.{standing}

-- A basis of m of the n limits with its inverse in lowest terms, whose rows have positive value lists V (U r), of w numbers each.
pub record Corner (m n : ℕ) (a : ℕ → ℕ → ℤ) (w : ℕ) (V : (ℕ → ℤ) → ℕ → ℤ) : Type 0 where
  pub β : ℕ → ℕ
  pub D : ℤ
  pub U : ℕ → ℕ → ℤ
  pub known : (r : ℕ) → r < m → β r < n
  pub inverse : Inverse m a β D U
  pub lowest : Lowest m D U
  pub rows : (r : ℕ) → r < m → Positive w (V (U r))

-- The standing for the K right sides H, over the denominator, falls from X to Y.
abbrev pub Falls : (m n : ℕ) (a : ℕ → ℕ → ℤ) (w : ℕ) (V : (ℕ → ℤ) → ℕ → ℤ) (K : ℕ) (H : ℕ → ℕ → ℤ) → Corner m n a w V → Corner m n a w V → Type 0
Falls m n a w V K H X Y = Before (K * w) (standing m w V Y.β Y.U H) Y.D (standing m w V X.β X.U H) X.D
