-- The sum of a column at readings, term by term.
use Rattle.std.proofs.Common.{◌≡◌, ℕ, suc, ◌+◌, ◌*◌, ◌<◌, List, get_or, drop, ℤ, pos, ◌+ℤ◌, ◌*ℤ◌, sym, refl, ap, ◌∙◌, subst, add-mul, add-zero, arith}
use Rattle.std.proofs.lemmas.List.{get_or-drop}
use Rattle.exact.specs.Vectors.{sum, entries}
use Rattle.exact.proofs.Ring.{lin, one-*}
use Rattle.exact.proofs.Sums.{sum_cong, sum_more}
use Rattle.plant.specs.Meaning.{Meaning, shape_of}
use Rattle.rows.specs.Cells.{cell}
use Rattle.tableau.specs.Plants.{with_one}
use Rattle.tableau.specs.Readings.{at_reading}
use Rattle.words.specs.declared.counts.Shape.{Shape}
use Rattle.tableau_words.specs.Layout.{row_width, limit_column, first_row, number_at}
use Rattle.tableau_words.specs.Held.{reading_row, Held}
use Rattle.tableau_words.specs.Readings.{column_at}
use Rattle.tableau_words.specs.Slacks.{SlackAnswer}
use Rattle.tableau_words.proofs.Across.{in_reading_limit}

-- The rows of the constants and of the readings begin here.
abbrev pub first_reading : Shape → ℕ
first_reading c = first_row c + c.commands * row_width c

-- Term k of the sum of a column.
abbrev pub term : Shape → List ℤ → List ℤ → ℕ → ℕ → ℤ
term c θ ws i k = with_one θ k *ℤ number_at c ws (c.commands + k) i

pub first_term : (c : Shape) (θ ws : List ℤ) (i : ℕ) → number_at c ws c.commands i ≡ sum 1 (term c θ ws i)
unfolding sum
first_term c θ ws i = rw add-zero (omega (arith, lin, one-* (number_at c ws c.commands i)))

pub next_term : (c : Shape) (θ ws : List ℤ) (i k : ℕ) → sum (k + 1 + 1) (term c θ ws i) ≡ sum (k + 1) (term c θ ws i) +ℤ entries θ k *ℤ number_at c ws (c.commands + (1 + k)) i
next_term c θ ws i k =
    let e : suc k ≡ k + 1 = omega arith in
    let f : 1 + k ≡ k + 1 = omega arith in
    rw f (sum_more (k + 1) (term c θ ws i) ∙ ap (λ z. sum (k + 1) (term c θ ws i) +ℤ z *ℤ number_at c ws (c.commands + (k + 1)) i) (subst (λ n. with_one θ n ≡ entries θ k) e refl))

-- The number of a reading's row in the words.
pub number_of_reading : (c : Shape) (ws : List ℤ) (k i : ℕ) → cell (row_width c) (drop (first_reading c) ws) k i ≡ number_at c ws (c.commands + k) i
number_of_reading c ws k i =
    let e : first_reading c + (k * row_width c + i) ≡ first_row c + ((c.commands + k) * row_width c + i) = omega (arith, add-mul c.commands k (row_width c)) in
    get_or-drop (first_reading c) ws (k * row_width c + i) _ ∙ ap (λ n. get_or ws n (pos 0)) e ∙ sym (get_or-drop (first_row c) ws ((c.commands + k) * row_width c + i) _)

-- The sum of the terms, in the words.
pub column_sum : (c : Shape) (θ ws : List ℤ) (i : ℕ) → sum (c.readings + 1) (λ k. with_one θ k *ℤ cell (row_width c) (drop (first_reading c) ws) k i) ≡ column_at c θ ws i
column_sum c θ ws i =
    let one_more : c.readings + 1 ≡ suc c.readings = omega arith in
    rw one_more (sum_cong (suc c.readings) _ _ (λ k h. ap (λ x. with_one θ k *ℤ x) (number_of_reading c ws k i)))

-- In words that hold a tableau, it is the column of the tableau's rows at the readings.
pub held_column : (p : Meaning) (a : ℕ → ℕ → ℤ) (β : ℕ → ℕ) (D : ℤ) (U : ℕ → ℕ → ℤ) (θ ws : List ℤ) (i : ℕ) → Held p a β D U ws → i < row_width (shape_of p)
    → column_at (shape_of p) θ ws i ≡ at_reading p θ (λ k. reading_row p a β D U k i)
held_column p a β D U θ ws i H l = sum_cong (suc p.readings) _ _ (λ k h. ap (λ x. with_one θ k *ℤ x) (H.reading_rows k i (omega arith) l))

pub answered : (c : Shape) (θ : List ℤ) (j : ℕ) (ws : List ℤ) (z : ℤ) → j < c.limits → z ≡ column_at c θ ws (limit_column c j) → SlackAnswer c θ j ws z
answered c θ j ws z l e p a β D U s H =
    let e' : z ≡ column_at (shape_of p) θ ws (limit_column (shape_of p) j) = subst (λ (q : Shape). z ≡ column_at q θ ws (limit_column q j)) s e in
    let l' : j < (shape_of p).limits = subst (λ (q : Shape). j < q.limits) s l in
    e' ∙ held_column p a β D U θ ws (limit_column (shape_of p) j) H (omega arith) ∙ sum_cong (suc p.readings) _ _ (λ k h. ap (λ x. with_one θ k *ℤ x) (in_reading_limit p a β D U k j))
