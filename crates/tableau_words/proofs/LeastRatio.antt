-- The least ratio among the first rows, and the limit that leaves.
use Rattle.std.proofs.Common.{◌≡◌, ℕ, zero, suc, ◌+◌, ◌<◌, List, drop, ℤ, pos, ◌≤ℤ◌, ◌<ℤ◌, Some, None, Option, sym, ◌∙◌, subst, ⊎_elim, arith}
use Rattle.std.proofs.lemmas.Int.{ints}
use Rattle.std.proofs.lemmas.Bool.{cases_lt}
use Rattle.exact.specs.Lists.{Before}
use Rattle.exact.proofs.Positive.{pos_cong, pos_not_zero, smaller}
use Rattle.exact.proofs.Ring.{lin}
use Rattle.plant.specs.Commands.{value}
use Rattle.plant.specs.Meaning.{Meaning, shape_of}
use Rattle.rows.specs.Cells.{cell}
use Rattle.tableau.specs.Exchange.{Leaves}
use Rattle.tableau.specs.Plants.{commands}
use Rattle.tableau.specs.Tableau.{entry}
use Rattle.words.specs.declared.counts.Shape.{Shape}
use Rattle.tableau_words.specs.Layout.{row_width, limit_column, first_row}
use Rattle.tableau_words.specs.Held.{Held}
use Rattle.tableau_words.specs.Leaving.{LeavingAnswer}
use Rattle.tableau_words.proofs.Across.{in_command, in_limit}

-- Rows of w numbers, compared by their first n numbers over that in the column.
module _ (w n column : ℕ) (xs : List ℤ) where
  abbrev Earlier : ℕ → ℕ → Type 0
  Earlier s r = Before n (cell w xs s) (cell w xs s column) (cell w xs r) (cell w xs r column)

  pub record LeastOf (k r : ℕ) : Type 0 where
    pub inside : r < k
    pub above : pos 0 <ℤ cell w xs r column
    pub least : (s : ℕ) → s < k → pos 0 <ℤ cell w xs s column → ¬ Earlier s r

  -- Of the first k rows, that with the least ratio; or none has a positive number in the column.
  abbrev pub SoFar : ℕ → Option ℕ → Type 0
  SoFar k (Some r) = LeastOf k r
  SoFar k None = (s : ℕ) → s < k → cell w xs s column ≤ℤ pos 0

  -- The next row, if its number is not positive.
  pub passed : (k : ℕ) (r : Option ℕ) → cell w xs k column ≤ℤ pos 0 → SoFar k r → SoFar (k + 1) r
  passed k (Some r) h i = record { inside = omega (arith, i.inside); above = i.above; least = λ s l q. ⊎_elim (λ m. i.least s m q) (λ m. let e : s ≡ k = omega arith in let z : pos 0 <ℤ cell w xs k column = subst (λ x. pos 0 <ℤ cell w xs x column) e q in absurd (omega (arith, ints))) (cases_lt s k) }
  passed k None h i = λ s l. ⊎_elim (λ m. i s m) (λ m. let e : s ≡ k = omega arith in subst (λ x. cell w xs x column ≤ℤ pos 0) (sym e) h) (cases_lt s k)

  not_self : (r : ℕ) → ¬ Earlier r r
  not_self r b = pos_not_zero n _ b (λ i l. omega (arith, lin))

  -- The next row is the first with a positive number.
  pub opened : (k : ℕ) → pos 0 <ℤ cell w xs k column → SoFar k None → LeastOf (k + 1) k
  opened k h i = record { inside = omega arith; above = h; least = λ s l q. ⊎_elim (λ m. absurd (let z = i s m in omega (arith, ints))) (λ m. let e : s ≡ k = omega arith in subst (λ x. ¬ Earlier x k) (sym e) (not_self k)) (cases_lt s k) }

  -- It has a lesser ratio than the least so far.
  pub taken : (k r : ℕ) → pos 0 <ℤ cell w xs k column → LeastOf k r → Earlier k r → LeastOf (k + 1) k
  taken k r h i b = record {
    inside = omega arith;
    above = h;
    least = λ s l q. ⊎_elim (λ m. smaller n (cell w xs s) (cell w xs r) (cell w xs k) (cell w xs s column) (cell w xs r column) (cell w xs k column) q i.above h (i.least s m q) b) (λ m. let e : s ≡ k = omega arith in subst (λ x. ¬ Earlier x k) (sym e) (not_self k)) (cases_lt s k);
  }

  -- Or it has not.
  pub kept : (k r : ℕ) → LeastOf k r → ¬ Earlier k r → LeastOf (k + 1) r
  kept k r i n = record { inside = omega (arith, i.inside); above = i.above; least = λ s l q. ⊎_elim (λ m. i.least s m q) (λ m. let e : s ≡ k = omega arith in subst (λ x. ¬ Earlier x r) (sym e) n) (cases_lt s k) }

-- What this says of a held tableau.
module _ (p : Meaning) (a : ℕ → ℕ → ℤ) (β : ℕ → ℕ) (D : ℤ) (U : ℕ → ℕ → ℤ) (ws : List ℤ) (H : Held p a β D U ws) (j : ℕ) (jn : j < (shape_of p).limits) where
  abbrev xs : List ℤ
  xs = drop (first_row (shape_of p)) ws

  abbrev w : ℕ
  w = row_width (shape_of p)

  abbrev col : ℕ
  col = limit_column (shape_of p) j

  in_column : (s : ℕ) → s < commands p → cell w xs s col ≡ entry p a U s j
  in_column s l = H.basis_rows s col l (omega arith) ∙ in_limit p a β D U s j

  in_list : (s : ℕ) → s < commands p → (i : ℕ) → i < suc (commands p) → cell w xs s i ≡ value p (U s) i
  in_list s l zero h = H.basis_rows s 0 l (omega arith)
  in_list s l (suc i) h =
      let e : 1 + i ≡ suc i = omega arith in
      subst (λ k. cell w xs s k ≡ U s i) e (H.basis_rows s (1 + i) l (omega arith) ∙ in_command p a β D U s i (omega arith))

  pub leaves_with : (r : ℕ) → LeastOf w (suc (commands p)) col xs (commands p) r → Leaves (commands p) a (suc (commands p)) (value p) U j r
  leaves_with r i = record {
    inside = i.inside;
    above = subst (λ z. pos 0 <ℤ z) (in_column r i.inside) i.above;
    least = λ s l n q b. i.least s l (subst (λ z. pos 0 <ℤ z) (sym (in_column s l)) q) (pos_cong (suc (commands p)) _ _ (λ k h. rw (in_column s l, in_column r i.inside, in_list s l k h, in_list r i.inside k h)) b);
  }

  pub none_with : SoFar w (suc (commands p)) col xs (commands p) None → (r : ℕ) → r < commands p → entry p a U r j ≤ℤ pos 0
  none_with i r l = subst (λ z. z ≤ℤ pos 0) (in_column r l) (i r l)

-- The answer, for words of a shape.
pub answered : (c : Shape) (j : ℕ) (ws : List ℤ) (r : Option ℕ) → j < c.limits → SoFar (row_width c) (first_row c) (limit_column c j) (drop (first_row c) ws) c.commands r → LeavingAnswer c j ws r
answered c j ws (Some r) l i = λ p a β D U e H.
    let one_more : 1 + commands p ≡ suc (commands p) = omega arith in
    leaves_with p a β D U ws H j (subst (λ z. j < z.limits) e l) r (subst (λ k. LeastOf (row_width (shape_of p)) k (limit_column (shape_of p) j) (drop (first_row (shape_of p)) ws) (commands p) r) one_more (subst (λ z. LeastOf (row_width z) (first_row z) (limit_column z j) (drop (first_row z) ws) z.commands r) e i))
answered c j ws None l i = λ p a β D U e H.
    none_with p a β D U ws H j (subst (λ z. j < z.limits) e l) (subst (λ z. SoFar (row_width z) (first_row z) (limit_column z j) (drop (first_row z) ws) z.commands None) e i)
