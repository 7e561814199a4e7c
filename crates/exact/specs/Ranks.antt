-- The answers to a comparison, and what each says.
use Rattle.std.specs.Prelude.{◌≡◌, ℕ, ◌<◌, ℤ, pos, ◌*ℤ◌, neg_ℤ}
use Rattle.exact.specs.Lists as Lists
use Rattle.std.specs.declared.cmp.Ordering.{Ordering}
use Rattle.std.specs.declared.cmp.Ordering.TheVariants.{Less, Equal, Greater}

-- A list of w numbers against zeros: it is positive, all zeros, or its negative is positive.
abbrev pub HasSign : ℕ → (ℕ → ℤ) → Ordering → Type 0
HasSign w f Greater = Lists.Positive w f
HasSign w f Equal = (i : ℕ) → i < w → f i ≡ pos 0
HasSign w f Less = Lists.Positive w (λ i. neg_ℤ (f i))

-- The list f / s comes before the list g / t, is equal to it, or comes after it, for s and t above 0.
abbrev pub Compared : ℕ → (ℕ → ℤ) → ℤ → (ℕ → ℤ) → ℤ → Ordering → Type 0
Compared w f s g t Less = Lists.Before w f s g t
Compared w f s g t Equal = (i : ℕ) → i < w → t *ℤ f i ≡ s *ℤ g i
Compared w f s g t Greater = Lists.Before w g t f s
