-- Where the numbers of a table stand.
use Rattle.std.specs.Prelude.{◌≡◌, ℕ, ◌+◌, ◌*◌, ◌<◌, List, [], ℤ, slice_index_or}
use Rattle.exact.specs.Vectors.{entries}
use Rattle.words.specs.Bounds.{Value}

-- The row of limit j, from 0.
abbrev pub row : List (List ℤ) → ℕ → List ℤ
row zss j = slice_index_or zss j []

-- Every number of a list is a number of a plant; past the end of the list the entries are 0.
abbrev pub AllValues : List ℤ → Type 0
AllValues zs = (i : ℕ) → Value (entries zs i)

-- Every number of a list of rows.
abbrev pub AllRowsValues : List (List ℤ) → Type 0
AllRowsValues zss = (j : ℕ) → AllValues (row zss j)

-- The first n numbers of a list are those of f.
abbrev pub Holds : ℕ → (ℕ → ℤ) → List ℤ → Type 0
Holds n f zs = (i : ℕ) → i < n → entries zs i ≡ f i

-- A list has rows of w places each, and the first m numbers of the first n rows are those of f.
abbrev pub RowsHold : ℕ → ℕ → ℕ → (ℕ → ℕ → ℤ) → List ℤ → Type 0
RowsHold w n m f zs = (j i : ℕ) → j < n → i < m → entries zs (j * w + i) ≡ f j i

-- The first n numbers of a list are those of f, and all are numbers of a plant.
pub record Numbers (n : ℕ) (f : ℕ → ℤ) (zs : List ℤ) : Type 0 where
  pub same : Holds n f zs
  pub values : AllValues zs
