-- An exchange of a matrix of rows of w numbers each, at row p and a column, over the denominator D.
use Rattle.std.specs.Prelude.{◌≡◌, ℕ, suc, ◌+◌, ◌*◌, ◌<◌, ◌≤◌, cond, List, length, ℤ, pos, ◌-ℤ◌, ◌*ℤ◌, ◌<ℤ◌, ◌==◌, ◌≢◌}
use Rattle.exact.specs.Vectors.{entries}
use Rattle.exact.specs.Bounds.{InWidth, AllInWidth}
use Rattle.exact.specs.Divisors.{Gcd}
use Rattle.exact.specs.LowestTerms.{every}
use Rattle.rows.specs.Cells.{cell}
use Rattle.rows.specs.Rewrites.{rewritten, scaled}

-- The most rows, and columns, of which the numerators are taken.
abbrev pub most_rows : ℕ
most_rows = 4

-- The most numbers of a row.
abbrev pub most_columns : ℕ
most_columns = 64

-- The new number of row s and column c, before the division.
unfoldable pub numerator_of : ℤ → ℕ → ℕ → ℕ → List ℤ → ℕ → ℕ → ℤ
numerator_of D w p column xs s c = cond (s == p) (D *ℤ cell w xs p c) (cell w xs p column *ℤ cell w xs s c -ℤ cell w xs s column *ℤ cell w xs p c)

-- g is the greatest common divisor of the new denominator and of the numerators of m rows and m columns, before the division.
pub record PivotDivisor (D : ℤ) (w m first p column : ℕ) (xs : List ℤ) (g : ℤ) : Type 0 where
  pub greatest : Gcd (suc (m * m)) (every m (D *ℤ cell w xs p column) (λ s c. numerator_of D w p column xs s (first + c))) g
  pub positive : pos 0 <ℤ g

-- Row p is scaled by D, the other rows below `count` are rewritten by the pivot, all over g; the rest is as it was.
pub record RowsExchanged (D g : ℤ) (column p w count : ℕ) (before after : List ℤ) : Type 0 where
  pub others : (r c : ℕ) → r < count → (r ≢ p) → c < w → cell w after r c ≡ rewritten (cell w before p column) g (cell w before r column) (cell w before r c) (cell w before p c)
  pub leaving : (c : ℕ) → c < w → cell w after p c ≡ scaled D g (cell w before p c)
  pub rest : (q : ℕ) → count * w ≤ q → entries after q ≡ entries before q
  pub widths : AllInWidth after

-- The new number of one cell is out of width.
pub data ExchangeOut (D g : ℤ) (column p w count : ℕ) (before : List ℤ) : Type 0 where
  other : (r c : ℕ) → r < count → (r ≢ p) → c < w → (InWidth (rewritten (cell w before p column) g (cell w before r column) (cell w before r c) (cell w before p c)) → ⊥) → ExchangeOut D g column p w count before
  leaving : (c : ℕ) → c < w → (InWidth (scaled D g (cell w before p c)) → ⊥) → ExchangeOut D g column p w count before

-- The matrix is exchanged in lowest terms, with the new denominator d.
pub record Pivoted (D : ℤ) (w m count first p column : ℕ) (before after : List ℤ) (d : ℤ) : Type 0 where
  pub divisor : ℤ
  pub is_divisor : PivotDivisor D w m first p column before divisor
  pub denominator : d ≡ scaled D divisor (cell w before p column)
  pub denominator_width : InWidth d
  pub rows : RowsExchanged D divisor column p w count before after
  pub same_length : length after ≡ length before

-- The new number of one cell is out of width; that of row p in the pivot's column is the new denominator.
pub record PivotOut (D : ℤ) (w m count first p column : ℕ) (before : List ℤ) : Type 0 where
  pub divisor : ℤ
  pub is_divisor : PivotDivisor D w m first p column before divisor
  pub out : ExchangeOut D divisor column p w count before
