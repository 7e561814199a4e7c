-- Rows of a flat list.
use Rattle.std.proofs.Common.{◌≡◌, ℕ, suc, ◌+◌, ◌-◌, ◌*◌, ◌<◌, ◌≤◌, List, length, take, drop, ℤ, sym, ◌∙◌, subst, ⊎_elim, mul-le-mul_right, suc-mul, arith, rules}
use borrow.Rule.Slice.PartMut.{put_mid}
use Rattle.std.proofs.lemmas.List.{places}
use Rattle.std.proofs.lemmas.List.Edits.{get_or-between, length-between}
use Rattle.std.proofs.lemmas.Nat.{mul-add-lt}
use Rattle.std.proofs.lemmas.Bool.{cases_lt, cases_order}
use Rattle.exact.specs.Vectors.{entries}
use Rattle.exact.specs.Bounds.{InWidth, AllInWidth}
use Rattle.exact.proofs.Sizes.{in_width_take, in_width_drop}
use Rattle.rows.specs.Cells.{cell}
use Rattle.rows.specs.Rewrites.{rewritten, RowRewritten, RowOut, RowsRewritten, RowsOut}

-- A row ends where the rows do, or before.
pub row_in : (r w n : ℕ) → r < n → r * w + w ≤ n * w
row_in r w n h = omega (arith, mul-le-mul_right {m = suc r} {n = n} w h, suc-mul r w)

-- The numbers of a list after its w numbers from place a on are written over.
module _ (a w : ℕ) (xs ys : List ℤ) (in' : a + w ≤ length xs) (long : length ys ≡ w) where
  pub below : (q : ℕ) → q < a → entries (put_mid a w xs ys) q ≡ entries xs q
  below q h = search (rules, places)

  pub within : (k : ℕ) → k < w → entries (put_mid a w xs ys) (a + k) ≡ entries ys k
  within k h = search (rules, places)

  pub above : (q : ℕ) → a + w ≤ q → entries (put_mid a w xs ys) q ≡ entries xs q
  above q h = search (rules, places)

  pub in_width_put : AllInWidth xs → AllInWidth ys → AllInWidth (put_mid a w xs ys)
  in_width_put p q k =
      ⊎_elim
      (λ h. subst InWidth (sym (below k h)) (p k))
      (λ h. ⊎_elim
      (λ i.
      let e : a + (k - a) ≡ k = omega arith in
      let l : k - a < w = omega arith in
      subst (λ (n : ℕ). InWidth (entries (put_mid a w xs ys) n)) e (subst InWidth (sym (within (k - a) l)) (q (k - a))))
      (λ i. subst InWidth (sym (above k i)) (p k))
      (cases_lt k (a + w)))
      (cases_lt k a)

-- Row r, as the code takes it.
abbrev pub part : ℕ → ℕ → List ℤ → List ℤ
part r w xs = take (r * w + w - r * w) (drop (r * w) xs)

pub part_at : (r w : ℕ) (xs : List ℤ) (k : ℕ) → k < w → entries (part r w xs) k ≡ cell w xs r k
part_at r w xs k h = get_or-between xs (r * w) (r * w + w) k _ (omega arith)

pub in_width_part : (r w : ℕ) (xs : List ℤ) → AllInWidth xs → AllInWidth (part r w xs)
in_width_part r w xs h = in_width_take (r * w + w - r * w) (drop (r * w) xs) (in_width_drop (r * w) xs h)

pub part_length : (r w : ℕ) (xs : List ℤ) → r * w + w ≤ length xs → length (part r w xs) ≡ w
part_length r w xs h = omega (arith, length-between xs (r * w) (r * w + w) h)

-- A cell of another row is as it was after row r is written over.
pub elsewhere : (r w : ℕ) (xs ys : List ℤ) → r * w + w ≤ length xs → length ys ≡ w → (i k : ℕ) → (i ≡ r → ⊥) → k < w → cell w (put_mid (r * w) w xs ys) i k ≡ cell w xs i k
elsewhere r w xs ys in' long i k ne l = ⊎_elim
    (λ e. absurd (ne e))
    (λ s. ⊎_elim
    (λ less. below (r * w) w xs ys in' long (i * w + k) (omega (arith, mul-add-lt i w k r less l)))
    (λ more. above (r * w) w xs ys in' long (i * w + k) (omega (arith, row_in r w i more)))
    s)
    (cases_order i r)

-- One turn of the loop over the rows.
module _ (by divisor : ℤ) (column p w : ℕ) (pivot before xs : List ℤ) (r : ℕ) (col : column < w) (D : RowsRewritten by divisor column p w r pivot before xs) where
  -- a number of the row, as it was before the loop
  old : (k : ℕ) → k < w → entries (part r w xs) k ≡ cell w before r k
  old k h = part_at r w xs k h ∙ D.rest (r * w + k) (omega arith)

  -- row p is passed over
  pub passed : r ≡ p → RowsRewritten by divisor column p w (r + 1) pivot before xs
  passed e = record {
    others = λ i k h n l. D.others i k (omega arith) n l;
    kept = D.kept;
    rest = λ q h. D.rest q (omega (arith, row_in r w (r + 1) (omega arith)));
    widths = D.widths;
  }

  -- one more row is rewritten
  module _ (ys : List ℤ) (ne : r ≡ p → ⊥) (in' : r * w + w ≤ length xs) (long : length ys ≡ w) (R : RowRewritten by divisor column pivot (part r w xs) ys) where
    here : (k : ℕ) → k < w → cell w (put_mid (r * w) w xs ys) r k ≡ rewritten by divisor (cell w before r column) (cell w before r k) (entries pivot k)
    here k l = within (r * w) w xs ys in' long k l ∙ rw (← old column col, ← old k l) (R.each k (omega (arith, part_length r w xs in')))

    pub done : RowsRewritten by divisor column p w (r + 1) pivot before (put_mid (r * w) w xs ys)
    done = record {
      others = λ i k h n l. ⊎_elim
          (λ e. rw e (here k l))
          (λ s. ⊎_elim
          (λ less. elsewhere r w xs ys in' long i k (omega arith) l ∙ D.others i k less n l)
          (λ more. absurd (omega arith))
          s)
          (cases_order i r);
      kept = λ k l. elsewhere r w xs ys in' long p k (λ e. ne (sym e)) l ∙ D.kept k l;
      rest = λ q h. above (r * w) w xs ys in' long q (omega (arith, row_in r w (r + 1) (omega arith))) ∙ D.rest q (omega (arith, row_in r w (r + 1) (omega arith)));
      widths = in_width_put (r * w) w xs ys in' long D.widths R.widths;
    }

  -- a number of the row is out of width
  pub refused : (n : ℕ) → (r ≡ p → ⊥) → r < n → r * w + w ≤ length xs → RowOut by divisor column pivot (part r w xs) → RowsOut by divisor column p w n pivot before
  refused n ne h in' R =
      let l : R.place < w = omega (arith, R.inside, part_length r w xs in') in
      record { row = r; place = R.place; among = h; other = ne; inside = l; out = rw (← old column col, ← old R.place l) R.out }
