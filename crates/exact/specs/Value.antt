-- The list of numbers by which vectors are compared.
use Rattle.std.specs.Prelude.{◌≡◌, ℕ, ◌<◌, ℤ, pos, ◌+ℤ◌, ◌*ℤ◌}
use Rattle.exact.specs.Vectors.{dot, first_then}

-- V gives a vector of m numbers a list of w numbers, linearly, and only the zero vector gets all zeros.
pub record Value (m w : ℕ) (V : (ℕ → ℤ) → ℕ → ℤ) : Type 0 where
  pub wide : 0 < w
  pub cong : (x y : ℕ → ℤ) → ((c : ℕ) → c < m → x c ≡ y c) → (i : ℕ) → i < w → V x i ≡ V y i
  pub linear : (s t : ℤ) (x y : ℕ → ℤ) (i : ℕ) → i < w → V (λ c. s *ℤ x c +ℤ t *ℤ y c) i ≡ s *ℤ V x i +ℤ t *ℤ V y i
  pub faithful : (x : ℕ → ℤ) → ((i : ℕ) → i < w → V x i ≡ pos 0) → (c : ℕ) → c < m → x c ≡ pos 0

-- The list (b · y, y 0, .., y (m - 1)): the objective first, then the vector itself to break ties.
abbrev pub full : ℕ → (ℕ → ℤ) → (ℕ → ℤ) → ℕ → ℤ
full m b y = first_then (dot m b y) y
