-- What an exchange writes into rows. The quotient is Rust's, towards 0; where the division is exact it is the quotient.
use Rattle.std.specs.Prelude.{◌≡◌, ℕ, ◌*◌, ◌<◌, ◌≤◌, List, length, ℤ, ◌-ℤ◌, ◌*ℤ◌, ◌≢◌, int_div}
use Rattle.exact.specs.Vectors.{entries}
use Rattle.exact.specs.Bounds.{InWidth, AllInWidth}
use Rattle.rows.specs.Cells.{cell}

-- The new number of x, in a row that has f in the pivot's column, where the pivot row has y under x.
unfoldable pub rewritten : ℤ → ℤ → ℤ → ℤ → ℤ → ℤ
rewritten by divisor f x y = int_div (by *ℤ x -ℤ f *ℤ y) divisor

-- The new number of x in the pivot row.
unfoldable pub scaled : ℤ → ℤ → ℤ → ℤ
scaled by divisor x = int_div (by *ℤ x) divisor

-- Each number of the row `before` is rewritten in `after`.
pub record RowRewritten (by divisor : ℤ) (column : ℕ) (pivot before after : List ℤ) : Type 0 where
  pub each : (k : ℕ) → k < length before → entries after k ≡ rewritten by divisor (entries before column) (entries before k) (entries pivot k)
  pub widths : AllInWidth after

-- The new number of one place is out of width.
pub record RowOut (by divisor : ℤ) (column : ℕ) (pivot before : List ℤ) : Type 0 where
  pub place : ℕ
  pub inside : place < length before
  pub out : InWidth (rewritten by divisor (entries before column) (entries before place) (entries pivot place)) → ⊥

-- Each number of the row `before` is scaled in `after`.
pub record RowScaled (by divisor : ℤ) (before after : List ℤ) : Type 0 where
  pub each : (k : ℕ) → k < length before → entries after k ≡ scaled by divisor (entries before k)
  pub widths : AllInWidth after

-- The scaled number of every place is in width.
abbrev pub ScaledIn : ℤ → ℤ → List ℤ → Type 0
ScaledIn by divisor before = (k : ℕ) → k < length before → InWidth (scaled by divisor (entries before k))

-- The scaled number of one place is out of width.
pub record ScaledOut (by divisor : ℤ) (before : List ℤ) : Type 0 where
  pub place : ℕ
  pub inside : place < length before
  pub out : InWidth (scaled by divisor (entries before place)) → ⊥

-- In the matrix `before` of rows of w numbers, the first `count` rows but row p are rewritten in `after`; the rest is as it was.
pub record RowsRewritten (by divisor : ℤ) (column p w count : ℕ) (pivot before after : List ℤ) : Type 0 where
  pub others : (r c : ℕ) → r < count → (r ≢ p) → c < w → cell w after r c ≡ rewritten by divisor (cell w before r column) (cell w before r c) (entries pivot c)
  pub kept : (c : ℕ) → c < w → cell w after p c ≡ cell w before p c
  pub rest : (q : ℕ) → count * w ≤ q → entries after q ≡ entries before q
  pub widths : AllInWidth after

-- The new number of one cell, in a row other than row p, is out of width.
pub record RowsOut (by divisor : ℤ) (column p w count : ℕ) (pivot before : List ℤ) : Type 0 where
  pub row : ℕ
  pub place : ℕ
  pub among : row < count
  pub other : row ≡ p → ⊥
  pub inside : place < w
  pub out : InWidth (rewritten by divisor (cell w before row column) (cell w before row place) (entries pivot place)) → ⊥
