-- The words with the denominator, the limits and the rows of the tableau of the artificial limits.
use Rattle.std.proofs.Common.{◌≡◌, ℕ, ◌+◌, ◌-◌, ◌*◌, ◌<◌, ◌≤◌, List, length, set, take, drop, ℤ, pos, sym, ap, subst, ◌∙◌, arith, get_or-set_same, length-set, length-drop, rules}
use borrow.Rule.Slice.PartMut.{put_mid}
use Rattle.std.proofs.lemmas.Nat.{mul-add-lt}
use Rattle.std.proofs.lemmas.List.{get_or-drop, take_rest}
use Rattle.std.proofs.lemmas.Slice.{overwrites}
use Rattle.exact.specs.Vectors.{entries}
use Rattle.words.specs.declared.counts.Shape.{Shape}
use Rattle.plant.specs.Meaning.{Meaning, Bounded, shape_of}
use Rattle.rows.proofs.Grid.{below, within}
use Rattle.tableau.specs.Plants.{commands, limits, all_columns}
use Rattle.tableau.proofs.Searches.{first_corner}
use Rattle.tableau_words.specs.Layout.{row_width, row_count, first_row, size, number_at}
use Rattle.tableau_words.specs.Held.{Held}
use Rattle.plant_table.specs.Places.{Holds, RowsHold}
use Rattle.first_tableau.specs.First.{HoldsFirst, first_inverse, first_number, first_reading_row}
use Rattle.first_tableau.proofs.FirstNumbers.{first_in_width}
use Rattle.first_tableau.proofs.Columns.{in_basis, in_readings}

-- The denominator is 1, and the limit of each of the first rows r is n + r.
abbrev pub Begun : ℕ → ℕ → List ℤ → Type 0
Begun n rows ws = (entries ws 0 ≡ pos 1) × ((r : ℕ) → r < rows → entries ws (1 + r) ≡ pos (n + r))

module _ (n m k : ℕ) (ws ls : List ℤ) (whole : k ≡ m) (inside : 1 + m ≤ length ws) (long : length ls ≡ m) where
  -- The words with the denominator and the limits written.
  abbrev pub begun_words : List ℤ
  begun_words = put_mid 1 k (set ws 0 (pos 1)) ls

  one_long : length (set ws 0 (pos 1)) ≡ length ws
  one_long = length-set ws 0 (pos 1)

  pub begun_long : length begun_words ≡ length ws
  begun_long = let one = one_long in search (rules, overwrites)

  pub limits_written : Holds m (λ r. pos (n + r)) ls → Begun n m begun_words
  limits_written held =
      let ones = set ws 0 (pos 1) in
      let in' : 1 + m ≤ length ones = omega (arith, one_long) in
      rw whole (
        below 1 m ones ls in' long 0 (omega arith) ∙ get_or-set_same ws 0 (pos 1) (pos 0) (omega arith),
        λ r l. within 1 m ones ls in' long r l ∙ held r l,
      )

module _ (p : Meaning) (ws ys : List ℤ) (long : length ws ≡ size (shape_of p)) (rows_long : length ys ≡ length ws - first_row (shape_of p))
    (begun : Begun (limits p) (commands p) ws)
    (rows : RowsHold (row_width (shape_of p)) (row_count (shape_of p)) (row_width (shape_of p)) (first_number p) ys) where
  abbrev h : ℕ
  h = first_row (shape_of p)

  abbrev w : ℕ
  w = row_width (shape_of p)

  abbrev pub all_words : List ℤ
  all_words = put_mid h (length ws - h) ws ys

  front : (q : ℕ) → q < h → entries all_words q ≡ entries ws q
  front q l = below h (length ws - h) ws ys (omega arith) rows_long q l

  at_row : (s i : ℕ) → s < row_count (shape_of p) → i < w → number_at (shape_of p) all_words s i ≡ first_number p s i
  at_row s i l k =
      let inside : s * w + i < length ws - h = omega (arith, mul-add-lt s w i (row_count (shape_of p)) l k) in
      get_or-drop h all_words (s * w + i) (pos 0) ∙ within h (length ws - h) ws ys (omega arith) rows_long (s * w + i) inside ∙ rows s i l k

  all_held : Held p (all_columns p) (λ i. limits p + i) (pos 1) (first_inverse p) all_words
  all_held = record {
    long = same_long ∙ long;
    denominator = front 0 (omega arith) ∙ begun.0;
    limits = λ r l. front (1 + r) (omega arith) ∙ begun.1 r l;
    basis_rows = λ r i l k. at_row r i (omega arith) k ∙ in_basis p r i l;
    reading_rows = λ k i l q. at_row (commands p + k) i (omega arith) q ∙ in_readings p (commands p + k) i (omega arith) ∙ ap (λ x. first_reading_row p x i) (back k);
  }
    where
      same_long : length all_words ≡ length ws
      same_long = search (rules, overwrites)

      back : (k : ℕ) → commands p + k - commands p ≡ k
      back k = omega arith

  pub holds_first : Bounded p → HoldsFirst p all_words
  unfolding first_corner
  holds_first B = record {
    corner = (first_corner p).0;
    artificial = (first_corner p).1;
    one = (first_corner p).2;
    held = all_held;
    in_width = first_in_width p B;
  }

-- The same where the code's counts are known to be the plant's.
pub finished : (p : Meaning) → Bounded p → (s : Shape) → s ≡ shape_of p → (ws ys : List ℤ) → length ws ≡ size (shape_of p) → length ys ≡ length (take (length ws - first_row s) (drop (first_row s) ws))
    → Begun s.limits s.commands ws → RowsHold (row_width (shape_of p)) (row_count (shape_of p)) (row_width (shape_of p)) (first_number p) ys
    → HoldsFirst p (put_mid (first_row s) (length ws - first_row s) ws ys)
finished p B s same ws ys long cut begun rows =
    let whole : length ys ≡ length ws - first_row s = cut ∙ ap length (take_rest ws (first_row s)) ∙ length-drop (first_row s) ws in
    subst (λ (x : Shape). length ys ≡ length ws - first_row x → Begun x.limits x.commands ws → HoldsFirst p (put_mid (first_row x) (length ws - first_row x) ws ys)) (sym same)
    (λ rest start. holds_first p ws ys long rest start rows B) whole begun
