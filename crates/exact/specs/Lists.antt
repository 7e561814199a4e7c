-- The lexicographic order.
use Rattle.std.specs.Prelude.{◌≡◌, ℕ, ◌<◌, ℤ, pos, ◌-ℤ◌, ◌*ℤ◌, ◌<ℤ◌}

-- A list of w numbers is positive when its first nonzero number is.
pub record Positive (w : ℕ) (f : ℕ → ℤ) : Type 0 where
  pub place : ℕ
  pub inside : place < w
  pub zeros : (i : ℕ) → i < place → f i ≡ pos 0
  pub lead : pos 0 <ℤ f place

-- The list f / s comes before the list g / t, for s and t above 0: by multiplying out.
abbrev pub Before : ℕ → (ℕ → ℤ) → ℤ → (ℕ → ℤ) → ℤ → Type 0
Before w f s g t = Positive w (λ i. s *ℤ g i -ℤ t *ℤ f i)
