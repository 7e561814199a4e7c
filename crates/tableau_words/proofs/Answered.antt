-- From the rows that were rewritten to what the exchange answers.
use borrow.Rule.Slice.PartMut.{put_mid}
use Rattle.std.proofs.Common.{◌≡◌, ℕ, ◌+◌, ◌-◌, ◌<◌, ◌≤◌, cond, eqb, ◌≢◌, List, length, take, drop, set, ℤ, pos, ◌<ℤ◌, sym, ◌∙◌, subst, ⊎_elim, arith, length-drop, length-set, get_or-set_other, get_or-set_same, rules}
use Rattle.std.proofs.lemmas.List.{drop-set-lt, take_rest, places, ext_get_or, get_or-drop}
use Rattle.std.proofs.lemmas.Slice.{overwrites}
use Rattle.std.proofs.lemmas.Bool.{eq-eqb, ne_eqb, cases_eq}
use Rattle.exact.specs.Vectors.{entries}
use Rattle.plant.specs.Meaning.{Meaning, shape_of}
use Rattle.rows.specs.Pivots.{Pivoted, PivotOut}
use Rattle.tableau.specs.Plants.{commands}
use Rattle.tableau.specs.Tableau.{Tableau}
use Rattle.words.specs.declared.counts.Shape.{Shape}
use Rattle.tableau_words.specs.Layout.{row_width, limit_column, row_count, first_row, number_at}
use Rattle.tableau_words.specs.Held.{Held}
use Rattle.tableau_words.specs.Exchanges.{HoldsAcross, OutOfWidthAcross}
use Rattle.tableau_words.proofs.Across.{in_limit, holds_across, out_across}

-- The words after the rows from place h on were written, and then the words at places 0 and k.
module _ (ws ys : List ℤ) (h k : ℕ) (d z : ℤ) (fits : h ≤ length ws) (long : length ys ≡ length ws - h) (low : 0 < k) (high : k < h) where
  abbrev rewritten_words : List ℤ
  rewritten_words = put_mid h (length ws - h) ws ys

  abbrev after_words : List ℤ
  after_words = set (set rewritten_words 0 d) k z

  rewritten_long : length rewritten_words ≡ length ws
  rewritten_long = search (rules, overwrites)

  rewritten_front : (s : ℕ) → s < h → entries rewritten_words s ≡ entries ws s
  rewritten_front s l = search (rules, places)

  written : (i : ℕ) → i < length ws - h → entries rewritten_words (h + i) ≡ entries ys i
  written i l = search (rules, places)

  rewritten_back : drop h rewritten_words ≡ ys
  rewritten_back =
      let same : length (drop h rewritten_words) ≡ length ys = length-drop h rewritten_words ∙ omega (arith, rewritten_long) in
      ext_get_or (pos 0) (drop h rewritten_words) ys same (λ i l. get_or-drop h rewritten_words i (pos 0) ∙ written i (omega arith))

  pub after_long : length after_words ≡ length ws
  after_long = simp length-set rewritten_long

  pub after_rows : drop h after_words ≡ ys
  after_rows = drop-set-lt h (set rewritten_words 0 d) k z high ∙ drop-set-lt h rewritten_words 0 d (omega arith) ∙ rewritten_back

  pub after_first : entries after_words 0 ≡ d
  after_first =
      let ne : 0 ≢ k = omega arith in
      let lt : 0 < length rewritten_words = omega (arith, rewritten_long) in
      get_or-set_other (set rewritten_words 0 d) k 0 z (pos 0) ne ∙ get_or-set_same rewritten_words 0 d (pos 0) lt

  pub after_limit : (s : ℕ) → 0 < s → s < h → entries after_words s ≡ cond (eqb s k) z (entries ws s)
  after_limit s some l = ⊎_elim
      (λ (e : s ≡ k).
      let lt : k < length (set rewritten_words 0 d) = rw (length-set rewritten_words 0 d) (omega (arith, rewritten_long)) in
      let here : entries after_words s ≡ z = rw e (get_or-set_same (set rewritten_words 0 d) k z (pos 0) lt) in
      here ∙ sym (rw (eq-eqb s k e)))
      (λ n.
      let zero : s ≢ 0 = omega arith in
      let there : entries after_words s ≡ entries ws s = get_or-set_other (set rewritten_words 0 d) k s z (pos 0) n ∙ get_or-set_other rewritten_words 0 s d (pos 0) zero ∙ rewritten_front s l in
      there ∙ sym (rw (ne_eqb s k n)))
      (cases_eq s k)

-- The answers, for words that hold a tableau with these counts.
module _ (p : Meaning) (a : ℕ → ℕ → ℤ) (β : ℕ → ℕ) (D : ℤ) (U : ℕ → ℕ → ℤ) (T : Tableau (commands p) a β D U) (ws : List ℤ) (H : Held p a β D U ws) (row limit : ℕ) where
  abbrev c : Shape
  c = shape_of p

  part_is : take (length ws - first_row c) (drop (first_row c) ws) ≡ drop (first_row c) ws
  part_is = take_rest ws (first_row c)

  pub refused : row < c.commands → limit < c.limits → pos 0 <ℤ number_at c ws row (limit_column c limit) → (E : ℤ) → E ≡ entries ws 0
      → PivotOut E (row_width c) c.commands (row_count c) 1 row (limit_column c limit) (take (length ws - first_row c) (drop (first_row c) ws)) → OutOfWidthAcross p a β D U row limit
  refused rm jn t E e Q =
      let tpos = subst (λ z. pos 0 <ℤ z) (H.basis_rows row (limit_column c limit) rm (omega arith) ∙ in_limit p a β D U row limit) t in
      out_across p a β D U T ws H row limit rm jn tpos
      (subst (λ xs. PivotOut D (row_width c) c.commands (row_count c) 1 row (limit_column c limit) xs) part_is
      (subst (λ z. PivotOut z (row_width c) c.commands (row_count c) 1 row (limit_column c limit) (take (length ws - first_row c) (drop (first_row c) ws))) (e ∙ H.denominator) Q))

  pub accepted : row < c.commands → limit < c.limits → pos 0 <ℤ number_at c ws row (limit_column c limit) → (E : ℤ) → E ≡ entries ws 0 → (ys : List ℤ) (d x y : ℤ) → x ≡ d → y ≡ pos limit
      → Pivoted E (row_width c) c.commands (row_count c) 1 row (limit_column c limit) (take (length ws - first_row c) (drop (first_row c) ws)) ys d
      → HoldsAcross p a β D U row limit (set (set (put_mid (first_row c) (length ws - first_row c) ws ys) 0 x) (1 + row) y)
  accepted rm jn t E e ys d x y ex ey Q =
      let tpos = subst (λ z. pos 0 <ℤ z) (H.basis_rows row (limit_column c limit) rm (omega arith) ∙ in_limit p a β D U row limit) t in
      let P : Pivoted D (row_width c) c.commands (row_count c) 1 row (limit_column c limit) (drop (first_row c) ws) ys d =
      subst (λ xs. Pivoted D (row_width c) c.commands (row_count c) 1 row (limit_column c limit) xs ys d) part_is
      (subst (λ z. Pivoted z (row_width c) c.commands (row_count c) 1 row (limit_column c limit) (take (length ws - first_row c) (drop (first_row c) ws)) ys d) (e ∙ H.denominator) Q) in
      let same_choice : (s : ℕ) → cond (eqb (1 + s) (1 + row)) y (entries ws (1 + s)) ≡ cond (eqb s row) (pos limit) (entries ws (1 + s)) = λ s. ⊎_elim
      (λ (q : s ≡ row). rw (eq-eqb (1 + s) (1 + row) (omega arith), eq-eqb s row q) ey)
      (λ (n : s ≡ row → ⊥). rw (ne_eqb (1 + s) (1 + row) (λ z. n (omega arith)), ne_eqb s row n))
      (cases_eq s row) in
      let fits : first_row c ≤ length ws = omega (arith, H.long) in
      let long : length ys ≡ length ws - first_row c = P.same_length ∙ length-drop (first_row c) ws in
      holds_across p a β D U T ws H row limit rm jn tpos _ ys d P
      (after_rows ws ys (first_row c) (1 + row) x y fits long (omega arith) (omega arith))
      (after_long ws ys (first_row c) (1 + row) x y fits long (omega arith) (omega arith))
      (after_first ws ys (first_row c) (1 + row) x y fits long (omega arith) (omega arith) ∙ ex)
      (λ s l. after_limit ws ys (first_row c) (1 + row) x y fits long (omega arith) (omega arith) (1 + s) (omega arith) (omega arith) ∙ same_choice s)

-- The same for counts that are equal to the plant's.
pub accepted_with : (c : Shape) (ws ys : List ℤ) (row limit : ℕ) (E d x y : ℤ) → row < c.commands → limit < c.limits → pos 0 <ℤ number_at c ws row (limit_column c limit) → E ≡ entries ws 0 → x ≡ d → y ≡ pos limit
    → Pivoted E (row_width c) c.commands (row_count c) 1 row (limit_column c limit) (take (length ws - first_row c) (drop (first_row c) ws)) ys d
    → (p : Meaning) (a : ℕ → ℕ → ℤ) (β : ℕ → ℕ) (D : ℤ) (U : ℕ → ℕ → ℤ) → c ≡ shape_of p → Tableau (commands p) a β D U → Held p a β D U ws
    → HoldsAcross p a β D U row limit (set (set (put_mid (first_row c) (length ws - first_row c) ws ys) 0 x) (1 + row) y)
accepted_with c ws ys row limit E d x y rm jn t e ex ey Q p a β D U same T H =
    let at = λ (s : Shape). (row < s.commands → limit < s.limits → pos 0 <ℤ number_at s ws row (limit_column s limit)
    → Pivoted E (row_width s) s.commands (row_count s) 1 row (limit_column s limit) (take (length ws - first_row s) (drop (first_row s) ws)) ys d
    → HoldsAcross p a β D U row limit (set (set (put_mid (first_row s) (length ws - first_row s) ws ys) 0 x) (1 + row) y)) in
    subst at (sym same) (λ rm' jn' t' Q'. accepted p a β D U T ws H row limit rm' jn' t' E e ys d x y ex ey Q') rm jn t Q

pub refused_with : (c : Shape) (ws : List ℤ) (row limit : ℕ) (E : ℤ) → row < c.commands → limit < c.limits → pos 0 <ℤ number_at c ws row (limit_column c limit) → E ≡ entries ws 0
    → PivotOut E (row_width c) c.commands (row_count c) 1 row (limit_column c limit) (take (length ws - first_row c) (drop (first_row c) ws))
    → (p : Meaning) (a : ℕ → ℕ → ℤ) (β : ℕ → ℕ) (D : ℤ) (U : ℕ → ℕ → ℤ) → c ≡ shape_of p → Tableau (commands p) a β D U → Held p a β D U ws → OutOfWidthAcross p a β D U row limit
refused_with c ws row limit E rm jn t e Q p a β D U same T H =
    let at = λ (s : Shape). (row < s.commands → limit < s.limits → pos 0 <ℤ number_at s ws row (limit_column s limit)
    → PivotOut E (row_width s) s.commands (row_count s) 1 row (limit_column s limit) (take (length ws - first_row s) (drop (first_row s) ws)) → OutOfWidthAcross p a β D U row limit) in
    subst at (sym same) (λ rm' jn' t' Q'. refused p a β D U T ws H row limit rm' jn' t' E e Q') rm jn t Q
