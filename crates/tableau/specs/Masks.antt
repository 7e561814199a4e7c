-- Sets of limits as numbers.
use Rattle.std.specs.Prelude.{ℕ, zero, suc, ◌+◌, ◌^◌, Bool, true, false, cond, eqb}
use Rattle.plant.specs.Meaning.{Meaning}
use Rattle.tableau.specs.Plants.{commands, limits, CornerOf}

-- Whether the limit i is one of β 0 .. β (m - 1).
unfoldable pub holds : ℕ → (ℕ → ℕ) → ℕ → Bool
holds zero β i = false
holds (suc m) β i = cond (eqb (β m) i) true (holds m β i)

-- The number with bit i for each i below n that S holds.
unfoldable pub mask : ℕ → (ℕ → Bool) → ℕ
mask zero S = 0
mask (suc n) S = cond (S n) (2 ^ n + mask n S) (mask n S)

-- The mask of a corner: the bit of a place is 1 for each limit of its basis.
abbrev pub mask_of : (p : Meaning) → CornerOf p → ℕ
mask_of p X = mask (limits p) (holds (commands p) X.β)
