-- The linear program of a plant, and the one with artificial limits in which the search for a first corner goes.
use Rattle.std.specs.Prelude.{ℕ, zero, suc, ◌+◌, List, ℤ, pos, length}
use Rattle.exact.specs.Vectors.{entries, first_then}
use Rattle.plant.specs.Meaning.{Meaning}
use Rattle.plant.specs.Commands.{limit_at, column, value}
use Rattle.tableau.specs.Artificial.{sign_of, extended}
use Rattle.tableau.specs.Corner.{Corner}

-- m, the number of commands, and n, the number of limits.
abbrev pub commands : Meaning → ℕ
commands p = length p.gains

abbrev pub limits : Meaning → ℕ
limits p = length p.limits

-- e_jk: the constant of limit j for k = 0, and its slope at reading k from 1 up. Behind the plant's limits all are 0.
abbrev pub rate : Meaning → ℕ → ℕ → ℤ
rate p zero j = (limit_at p j).constant
rate p (suc k) j = entries (limit_at p j).slopes k

-- The readings with θ_0 = 1 before them.
abbrev pub with_one : List ℤ → ℕ → ℤ
with_one θ = first_then (pos 1) (entries θ)

-- The plant's columns, and behind them those of the artificial limits n + i: -1 at place i where the gain is negative, else 1, and 0 elsewhere.
abbrev pub all_columns : Meaning → ℕ → ℕ → ℤ
all_columns p = extended (limits p) (λ i. sign_of (entries p.gains i)) (column p)

-- A corner of the plant: rows are compared by gain, then by entries.
abbrev pub CornerOf : Meaning → Type 0
CornerOf p = Corner (commands p) (limits p) (column p) (suc (commands p)) (value p)

-- A corner of the program with the artificial limits.
abbrev pub SearchCorner : Meaning → Type 0
SearchCorner p = Corner (commands p) (limits p + commands p) (all_columns p) (suc (commands p)) (value p)
