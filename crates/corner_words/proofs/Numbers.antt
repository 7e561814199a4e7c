-- The numbers of words that hold a corner.
use Rattle.std.proofs.Common.{◌≡◌, ℕ, suc, ◌+◌, ◌-◌, ◌*◌, ◌/◌, ◌%◌, ◌<◌, ◌≤◌, List, drop, ℤ, pos, ◌<ℤ◌, sym, ap, ◌∙◌, subst, ⊎_elim, arith}
use Rattle.std.proofs.lemmas.Nat.{div_below, mod_below, div-add-mod'}
use Rattle.std.proofs.lemmas.List.{get_or-drop, get_or_past}
use Rattle.std.proofs.lemmas.Bool.{cases_eq, cases_lt}
use Rattle.exact.specs.Bounds.{InWidth, AllInWidth}
use Rattle.exact.specs.Vectors.{entries}
use Rattle.plant.specs.Commands.{value}
use Rattle.plant.specs.Meaning.{Meaning, shape_of}
use Rattle.tableau.specs.Exchange.{Leaves}
use Rattle.tableau.specs.Plants.{commands, limits}
use Rattle.words.specs.Layout.{InBounds}
use Rattle.tableau_words.specs.Layout.{row_width, limit_column, row_count, first_row, size, number_at}
use Rattle.tableau_words.proofs.Across.{in_limit, row_in_width, reading_in_width}
use Rattle.corner_words.specs.Corners.{CornerIn, Holds}

module _ (p : Meaning) (n : ℕ) (a : ℕ → ℕ → ℤ) (X : CornerIn p n a) (ws : List ℤ) where
  row_small : Holds p n a X ws → (s i : ℕ) → s < row_count (shape_of p) → i < row_width (shape_of p) → InWidth (number_at (shape_of p) ws s i)
  row_small H s i l h = ⊎_elim
      (λ k. subst InWidth (sym (H.held.basis_rows s i k h)) (row_in_width p a X.β X.D X.U H.in_width s i k h))
      (λ k.
      let at : commands p + (s - commands p) ≡ s = omega arith in
      let few : s - commands p ≤ p.readings = omega arith in
      subst (λ x. InWidth (number_at (shape_of p) ws x i)) at (subst InWidth (sym (H.held.reading_rows (s - commands p) i few h)) (reading_in_width p a X.β X.D X.U H.in_width (s - commands p) i few h)))
      (cases_lt s (commands p))

  -- The word at the place o of the rows.
  in_rows : Holds p n a X ws → (o : ℕ) → o < row_count (shape_of p) * row_width (shape_of p) → InWidth (entries ws (first_row (shape_of p) + o))
  in_rows H o l =
      let w = row_width (shape_of p) in
      let some : 0 < w = omega arith in
      let number = row_small H (o / w) (o % w) (div_below o w (row_count (shape_of p)) some l) (mod_below o w some) in
      subst InWidth (ap (λ k. entries (drop (first_row (shape_of p)) ws) k) (div-add-mod' o w) ∙ get_or-drop (first_row (shape_of p)) ws o (pos 0)) number

  -- Every word is in width: the denominator, the limits of the rows, and the rows.
  pub holds_widths : InBounds (shape_of p) → n ≤ limits p + commands p → Holds p n a X ws → AllInWidth ws
  holds_widths counts few H i = ⊎_elim
      (λ e. subst (λ k. InWidth (entries ws k)) (sym e) (subst InWidth (sym H.held.denominator) H.in_width.denominator))
      (λ some. ⊎_elim
      (λ l.
      let at : 1 + (i - 1) ≡ i = omega arith in
      let inside : i - 1 < commands p = omega arith in
      subst (λ k. InWidth (entries ws k)) at (subst InWidth (sym (H.held.limits (i - 1) inside)) (omega (arith, X.known (i - 1) inside, counts.1, counts.3))))
      (λ l. ⊎_elim
      (λ k.
      let at : first_row (shape_of p) + (i - first_row (shape_of p)) ≡ i = omega arith in
      subst (λ k. InWidth (entries ws k)) at (in_rows H (i - first_row (shape_of p)) (omega arith)))
      (λ k. subst InWidth (sym (get_or_past ws i (pos 0) (omega (arith, H.held.long)))) (omega arith))
      (cases_lt i (size (shape_of p))))
      (cases_lt i (first_row (shape_of p))))
      (cases_eq i 0)

  -- The denominator is positive, and so is the number of the row that leaves.
  pub denominator_positive : Holds p n a X ws → pos 0 <ℤ entries ws 0
  denominator_positive H = subst (λ z. pos 0 <ℤ z) (sym H.held.denominator) X.inverse.dpos

  pub pivot_positive : (j r : ℕ) → j < limits p → Leaves (commands p) a (suc (commands p)) (value p) X.U j r → Holds p n a X ws → pos 0 <ℤ number_at (shape_of p) ws r (limit_column (shape_of p) j)
  pivot_positive j r l L H = subst (λ z. pos 0 <ℤ z) (sym (H.held.basis_rows r (limit_column (shape_of p) j) L.inside (omega arith) ∙ in_limit p a X.β X.D X.U r j)) L.above
