-- The least limit below another, among the first rows.
use Rattle.std.proofs.Common.{◌≡◌, ℕ, ◌+◌, ◌<◌, List, get_or, drop, ℤ, pos, ◌≤ℤ◌, ◌<ℤ◌, Some, None, Option, sym, ◌∙◌, subst, ⊎_elim, arith}
use Rattle.std.proofs.lemmas.Int.{ints}
use Rattle.std.proofs.lemmas.Bool.{cases_lt}
use Rattle.exact.proofs.Ring.{order, below, same, above}
use Rattle.plant.specs.Meaning.{Meaning, shape_of}
use Rattle.rows.specs.Cells.{cell}
use Rattle.tableau.specs.Plants.{commands}
use Rattle.tableau.specs.Tableau.{entry}
use Rattle.words.specs.declared.counts.Shape.{Shape}
use Rattle.tableau_words.specs.Layout.{row_width, limit_column, first_row}
use Rattle.tableau_words.specs.Held.{Held}
use Rattle.tableau_words.specs.Entering.{IsFirstBelow, BelowAnswer}
use Rattle.tableau_words.proofs.Across.{in_limit}

module _ (w column j : ℕ) (ws xs : List ℤ) where
  abbrev limit_of : ℕ → ℤ
  limit_of s = get_or ws (1 + s) (pos 0)

  abbrev number : ℕ → ℤ
  number s = cell w xs s column

  pub record LeastBelow (k q : ℕ) : Type 0 where
    pub inside : q < k
    pub below_j : limit_of q <ℤ pos j
    pub nonzero : ¬ (number q ≡ pos 0)
    pub least : (s : ℕ) → s < k → limit_of s <ℤ pos j → ¬ (number s ≡ pos 0) → limit_of q ≤ℤ limit_of s

  -- Of the first k rows, that of the least limit below j whose number is not 0, or that there is none.
  abbrev pub SoFar : ℕ → Option ℕ → Type 0
  SoFar k (Some q) = LeastBelow k q
  SoFar k None = (s : ℕ) → s < k → limit_of s <ℤ pos j → number s ≡ pos 0

  -- The next row does not count.
  pub passed : (k : ℕ) (r : Option ℕ) → (limit_of k <ℤ pos j → number k ≡ pos 0) → SoFar k r → SoFar (k + 1) r
  passed k (Some q) h i = record {
    inside = omega (arith, i.inside);
    below_j = i.below_j;
    nonzero = i.nonzero;
    least = λ s l b n. ⊎_elim (λ m. i.least s m b n) (λ m. let e : s ≡ k = omega arith in absurd (n (subst (λ x. number x ≡ pos 0) (sym e) (h (subst (λ x. limit_of x <ℤ pos j) e b))))) (cases_lt s k);
  }
  passed k None h i = λ s l b. ⊎_elim (λ m. i s m b) (λ m. let e : s ≡ k = omega arith in subst (λ x. number x ≡ pos 0) (sym e) (h (subst (λ x. limit_of x <ℤ pos j) e b))) (cases_lt s k)

  -- It is the first that counts.
  pub opened : (k : ℕ) → limit_of k <ℤ pos j → ¬ (number k ≡ pos 0) → SoFar k None → LeastBelow (k + 1) k
  opened k b n i = record {
    inside = omega arith;
    below_j = b;
    nonzero = n;
    least = λ s l c z. ⊎_elim (λ m. absurd (z (i s m c))) (λ m. let e : k ≡ s = omega arith in subst (λ x. limit_of k ≤ℤ limit_of x) e (omega (arith, ints))) (cases_lt s k);
  }

  -- Its limit is less than the least so far.
  pub taken : (k q : ℕ) → limit_of k <ℤ pos j → ¬ (number k ≡ pos 0) → LeastBelow k q → limit_of k <ℤ limit_of q → LeastBelow (k + 1) k
  taken k q b n i h = record {
    inside = omega arith;
    below_j = b;
    nonzero = n;
    least = λ s l c z. ⊎_elim (λ m. let x = i.least s m c z in omega (arith, ints)) (λ m. let e : k ≡ s = omega arith in subst (λ x. limit_of k ≤ℤ limit_of x) e (omega (arith, ints))) (cases_lt s k);
  }

  -- Or it is not.
  pub kept : (k q : ℕ) → LeastBelow k q → limit_of q ≤ℤ limit_of k → LeastBelow (k + 1) q
  kept k q i h = record {
    inside = omega (arith, i.inside);
    below_j = i.below_j;
    nonzero = i.nonzero;
    least = λ s l c z. ⊎_elim (λ m. i.least s m c z) (λ m. let e : k ≡ s = omega arith in subst (λ x. limit_of q ≤ℤ limit_of x) e h) (cases_lt s k);
  }

-- What this says of a held tableau.
module _ (p : Meaning) (a : ℕ → ℕ → ℤ) (β : ℕ → ℕ) (D : ℤ) (U : ℕ → ℕ → ℤ) (ws : List ℤ) (H : Held p a β D U ws) (j : ℕ) (jn : j < (shape_of p).limits) where
  abbrev xs : List ℤ
  xs = drop (first_row (shape_of p)) ws

  abbrev w : ℕ
  w = row_width (shape_of p)

  abbrev col : ℕ
  col = limit_column (shape_of p) j

  in_column : (s : ℕ) → s < commands p → cell w xs s col ≡ entry p a U s j
  in_column s l = H.basis_rows s col l (omega arith) ∙ in_limit p a β D U s j

  under : (s : ℕ) → s < commands p → β s < j → get_or ws (1 + s) (pos 0) <ℤ pos j
  under s l b = subst (λ z. z <ℤ pos j) (sym (H.limits s l)) (omega (arith, ints))

  pub first_with : (q : ℕ) → LeastBelow w col j ws xs (commands p) q → IsFirstBelow p a β U j q
  first_with q i =
      let eq = H.limits q i.inside in
      let b : pos (β q) <ℤ pos j = subst (λ z. z <ℤ pos j) eq i.below_j in
      record {
        inside = i.inside;
        below = omega (arith, ints);
        nonzero = λ e. i.nonzero (in_column q i.inside ∙ e);
        first = λ s l h. elim (order (entry p a U s j) (pos 0)) [
          | same e ↦ e
          | below d ↦ absurd (let x = i.least s l (under s l (omega (arith, ints))) (λ e. let z : entry p a U s j ≡ pos 0 = sym (in_column s l) ∙ e in omega (arith, ints)) in let es = H.limits s l in omega (arith, ints))
          | above d ↦ absurd (let x = i.least s l (under s l (omega (arith, ints))) (λ e. let z : entry p a U s j ≡ pos 0 = sym (in_column s l) ∙ e in omega (arith, ints)) in let es = H.limits s l in omega (arith, ints))
        ];
      }

  pub none_with : SoFar w col j ws xs (commands p) None → (s : ℕ) → s < commands p → β s < j → entry p a U s j ≡ pos 0
  none_with i s l b = sym (in_column s l) ∙ i s l (under s l b)

-- The answer, for words of a shape.
pub some_answered : (c : Shape) (j : ℕ) (ws : List ℤ) (q : ℕ) → j < c.limits → LeastBelow (row_width c) (limit_column c j) j ws (drop (first_row c) ws) c.commands q → BelowAnswer c j ws (Some (cell (row_width c) (drop (first_row c) ws) q (limit_column c j)))
some_answered c j ws q l i = λ p a β D U e H.
    let l' : j < (shape_of p).limits = subst (λ (z : Shape). j < z.limits) e l in
    let i' : LeastBelow (row_width (shape_of p)) (limit_column (shape_of p) j) j ws (drop (first_row (shape_of p)) ws) (commands p) q = subst (λ (z : Shape). LeastBelow (row_width z) (limit_column z j) j ws (drop (first_row z) ws) z.commands q) e i in
    (q, first_with p a β D U ws H j l' q i', subst (λ (z : Shape). cell (row_width z) (drop (first_row z) ws) q (limit_column z j) ≡ entry p a U q j) (sym e) (in_column p a β D U ws H j l' q i'.inside))

pub none_answered : (c : Shape) (j : ℕ) (ws : List ℤ) → j < c.limits → SoFar (row_width c) (limit_column c j) j ws (drop (first_row c) ws) c.commands None → BelowAnswer c j ws None
none_answered c j ws l i = λ p a β D U e H.
    none_with p a β D U ws H j (subst (λ (z : Shape). j < z.limits) e l) (subst (λ (z : Shape). SoFar (row_width z) (limit_column z j) j ws (drop (first_row z) ws) z.commands None) e i)
