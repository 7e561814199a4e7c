-- A matrix of rows of w numbers each lies row after row in one list.
use Rattle.std.specs.Prelude.{ℕ, ◌+◌, ◌*◌, List, ℤ, pos, slice_index_or}

-- The number of row r and column c stands at place r * w + c.
abbrev pub cell : ℕ → List ℤ → ℕ → ℕ → ℤ
cell w xs r c = slice_index_or xs (r * w + c) (pos 0)
