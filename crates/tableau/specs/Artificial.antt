-- Artificial limits, with which the search for a first corner begins.
use Rattle.std.specs.Prelude.{ℕ, ◌-◌, cond, ltb, ℤ, pos, negsuc, ◌*ℤ◌}
use Rattle.tableau.specs.Points.{unit}

-- The vector with w i at place i, else 0.
abbrev pub diag : (ℕ → ℤ) → ℕ → ℕ → ℤ
diag w i c = unit i c *ℤ w c

-- -1 below 0, else 1.
abbrev pub sign_of : ℤ → ℤ
sign_of (pos n) = pos 1
sign_of (negsuc n) = negsuc 0

-- The columns of n true limits, and behind them one artificial limit n + i for each place i, with the column diag w i.
abbrev pub extended : ℕ → (ℕ → ℤ) → (ℕ → ℕ → ℤ) → ℕ → ℕ → ℤ
extended n w a j = cond (ltb j n) (a j) (diag w (j - n))

-- 1 for an artificial limit, 0 for a true one.
abbrev pub is_artificial : ℕ → ℕ → ℤ
is_artificial n j = cond (ltb j n) (pos 0) (pos 1)
