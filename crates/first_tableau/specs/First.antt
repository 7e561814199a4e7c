-- The tableau with which the search for a first corner begins: that of the basis of all artificial limits.
use Rattle.std.specs.Prelude.{◌≡◌, ℕ, ◌+◌, ◌-◌, cond, List, ℤ, pos, nat_lt}
use Rattle.exact.specs.Vectors.{entries}
use Rattle.plant.specs.Meaning.{Meaning}
use Rattle.tableau.specs.Artificial.{diag, sign_of}
use Rattle.tableau.specs.Plants.{commands, limits, all_columns, SearchCorner}
use Rattle.tableau.specs.Search.{AllArtificial}
use Rattle.tableau.specs.Tableau.{TableauInWidth}
use Rattle.tableau_words.specs.Held.{basis_row, reading_row, Held}

-- The words hold it, and it is in width.
pub record HoldsFirst (p : Meaning) (ws : List ℤ) : Type 0 where
  pub corner : SearchCorner p
  pub artificial : AllArtificial p corner
  pub one : corner.D ≡ pos 1
  pub held : Held p (all_columns p) corner.β corner.D corner.U ws
  pub in_width : TableauInWidth p (limits p) (all_columns p) corner.β corner.D corner.U

module _ (p : Meaning) where
  -- Its inverse: -1 or 1 in the diagonal, as the gain is negative or not, and 0 elsewhere.
  abbrev pub first_inverse : ℕ → ℕ → ℤ
  first_inverse = diag (λ i. sign_of (entries p.gains i))

  -- The row of each artificial limit, and that of the constants and of each reading.
  abbrev pub first_basis_row : ℕ → ℕ → ℤ
  first_basis_row = basis_row p (all_columns p) (λ i. limits p + i) (pos 1) first_inverse

  abbrev pub first_reading_row : ℕ → ℕ → ℤ
  first_reading_row = reading_row p (all_columns p) (λ i. limits p + i) (pos 1) first_inverse

  -- All its rows in order.
  abbrev pub first_number : ℕ → ℕ → ℤ
  first_number s i = cond (nat_lt s (commands p)) (first_basis_row s i) (first_reading_row (s - commands p) i)
