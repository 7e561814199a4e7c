-- Lists laid end to end.
use Rattle.std.specs.Prelude.{◌≡◌, ℕ, ◌<◌, ℤ, pos}
use Rattle.exact.specs.Lists.{Positive}

-- n lists of w numbers, laid end to end, are positive: the first of them that is not all zeros is.
pub record PositiveEndToEnd (n w : ℕ) (F : ℕ → ℕ → ℤ) : Type 0 where
  pub row : ℕ
  pub among : row < n
  pub blank : (i : ℕ) → i < row → (c : ℕ) → c < w → F i c ≡ pos 0
  pub first : Positive w (F row)
