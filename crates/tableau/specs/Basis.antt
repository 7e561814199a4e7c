-- Bases of a linear program with m variables, whose limit j has the column a j. Limits and rows are counted from 0.
use Rattle.std.specs.Prelude.{ℕ, ◌<◌, ◌≡◌, ℤ, pos, ◌*ℤ◌, ◌<ℤ◌, ◌≤ℤ◌}
use Rattle.exact.specs.Vectors.{sum, dot}

-- m limits, told as β 0 .. β (m - 1) in any order, whose columns are independent: only the combination with all factors 0 is 0.
pub record Basis (m n : ℕ) (a : ℕ → ℕ → ℤ) (β : ℕ → ℕ) : Type 0 where
  pub known : (r : ℕ) → r < m → β r < n
  pub independent : (k : ℕ → ℤ) → ((c : ℕ) → c < m → sum m (λ r. k r *ℤ a (β r) c) ≡ pos 0) → (r : ℕ) → r < m → k r ≡ pos 0

-- Each limit of β is one of β'. For two bases this says that they are one set: the order of the rows does not matter.
abbrev pub Among : ℕ → (ℕ → ℕ) → (ℕ → ℕ) → Type 0
Among m β β' = (r : ℕ) → r < m → (s : ℕ) × (s < m) × (β' s ≡ β r)

-- The limits ascend. Each basis has one such order; a tableau told in it is the special case in which row r belongs to the r-th limit.
abbrev pub Ascending : ℕ → (ℕ → ℕ) → Type 0
Ascending m β = (r s : ℕ) → r < s → s < m → β r < β s

-- U / D is the inverse of the matrix of the columns of β, from the left and from the right; row r belongs to the limit β r.
pub record Inverse (m : ℕ) (a : ℕ → ℕ → ℤ) (β : ℕ → ℕ) (D : ℤ) (U : ℕ → ℕ → ℤ) : Type 0 where
  pub dpos : pos 0 <ℤ D
  pub left_same : (r : ℕ) → r < m → dot m (a (β r)) (U r) ≡ D
  pub left_other : (r s : ℕ) → r < m → s < m → ¬ (r ≡ s) → dot m (a (β s)) (U r) ≡ pos 0
  pub right_same : (c : ℕ) → c < m → sum m (λ r. U r c *ℤ a (β r) c) ≡ D
  pub right_other : (c k : ℕ) → c < m → k < m → ¬ (k ≡ c) → sum m (λ r. U r c *ℤ a (β r) k) ≡ pos 0

-- D is the least number from 1 up that makes the inverse whole.
abbrev pub Smallest : ℕ → (ℕ → ℕ → ℤ) → (ℕ → ℕ) → ℤ → Type 0
Smallest m a β D = (D' : ℤ) (U' : ℕ → ℕ → ℤ) → Inverse m a β D' U' → D ≤ℤ D'
