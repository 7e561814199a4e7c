-- The rows that are rewritten and the pivot row that is scaled, put together.
use Rattle.std.proofs.Common.{◌≡◌, ℕ, ◌+◌, ◌-◌, ◌*◌, ◌<◌, ◌≤◌, List, length, take, ℤ, sym, ap, ◌∙◌, arith}
use native.Mathlib.Nat.{sub-zero}
use borrow.Rule.Slice.PartMut.{put_mid}
use Rattle.std.proofs.lemmas.List.{get_or-take}
use Rattle.exact.specs.Vectors.{entries}
use Rattle.rows.specs.Cells.{cell}
use Rattle.rows.specs.Rewrites.{RowScaled, ScaledOut, RowsRewritten, RowsOut}
use Rattle.rows.specs.Pivots.{RowsExchanged, ExchangeOut, other, leaving}
use Rattle.rows.proofs.Grid.{row_in, part, part_at, part_length, within, above, elsewhere, in_width_put}

module _ (D g : ℤ) (column p w count : ℕ) (pivot before : List ℤ) (col : column < w) (copy : (c : ℕ) → c < w → entries pivot c ≡ cell w before p c) where
  -- a number of another row is out of width
  pub other_out : RowsOut (entries pivot column) g column p w count pivot before → ExchangeOut D g column p w count before
  other_out R = other R.row R.place R.among R.other R.inside (rw (← copy column col, ← copy R.place R.inside) R.out)

  module _ (xs : List ℤ) (E : RowsRewritten (entries pivot column) g column p w count pivot before xs) (in' : p * w + w ≤ length xs) where
    -- a number of the pivot row, as it was
    old : (k : ℕ) → k < w → entries (part p w xs) k ≡ cell w before p k
    old k l = part_at p w xs k l ∙ E.kept k l

    -- a number of the pivot row is out of width
    pub leaving_out : ScaledOut D g (part p w xs) → ExchangeOut D g column p w count before
    leaving_out R =
        let l : R.place < w = omega (arith, R.inside, part_length p w xs in') in
        leaving R.place l (rw (← old R.place l) R.out)

    -- all rows are exchanged
    pub exchanged : (ys : List ℤ) → p < count → length ys ≡ w → RowScaled D g (part p w xs) ys → RowsExchanged D g column p w count before (put_mid (p * w) w xs ys)
    exchanged ys among long R = record {
      others = λ r c h n l. elsewhere p w xs ys in' long r c n l ∙ rw (← copy column col, ← copy c l) (E.others r c h n l);
      leaving = λ c l. within (p * w) w xs ys in' long c l ∙ rw (← old c l) (R.each c (omega (arith, part_length p w xs in')));
      rest = λ q h. above (p * w) w xs ys in' long q (omega (arith, row_in p w count among)) ∙ E.rest q h;
      widths = in_width_put (p * w) w xs ys in' long E.widths R.widths;
    }

-- A copy of row p in the front of a longer list.
module _ (w p : ℕ) (xs row : List ℤ) (e : take w row ≡ part p w xs) where
  pub copy_part : take (w - 0) row ≡ part p w xs
  copy_part = rw sub-zero e

  pub copy_at : (k : ℕ) → k < w → entries row k ≡ cell w xs p k
  copy_at k l = sym (get_or-take w row k _ l) ∙ ap (λ (ys : List ℤ). entries ys k) e ∙ part_at p w xs k l
