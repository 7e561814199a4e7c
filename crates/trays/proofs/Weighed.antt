-- The weights of limits, row by row.
use Rattle.std.proofs.Common.{◌≡◌, ℕ, ◌+◌, ◌<◌, ◌≤◌, List, length, set, ℤ, pos, neg_ℤ, sym, ap, ◌∙◌, subst, ⊎_elim, arith, length-set, get_or-set_other, get_or-set_same}
use Rattle.std.proofs.lemmas.Int.{ints}
use Rattle.std.proofs.lemmas.Bool.{cases_eq}
use Rattle.exact.specs.Vectors.{entries}
use Rattle.plant.specs.Commands.{column}
use Rattle.plant.specs.Meaning.{Meaning, shape_of}
use Rattle.tableau.specs.Plants.{commands, limits, CornerOf}
use Rattle.tableau.specs.Runs.{InBasis}
use Rattle.tableau.proofs.Willing.{injective}
use Rattle.tableau_words.specs.Held.{Held}
use Rattle.tableau_words.specs.Layout.{limit_column, number_at}
use Rattle.tableau_words.proofs.Across.{in_limit}
use Rattle.words.specs.declared.counts.Shape.{Shape}
use Rattle.trays.specs.Trays.{tray_size}
use Rattle.trays.specs.Weights.{WeightsList, RowsKnown, WeightsAnswer}

-- The first k of the rows of the limits β have the weights f, each at its limit, and the other places 0.
pub record Weighed (β : ℕ → ℕ) (f : ℕ → ℤ) (k : ℕ) (xs : List ℤ) : Type 0 where
  pub rows : (r : ℕ) → r < k → entries xs (β r) ≡ f r
  pub others : (l : ℕ) → ((r : ℕ) → r < k → ¬ (β r ≡ l)) → entries xs l ≡ pos 0

module _ (β : ℕ → ℕ) (f : ℕ → ℤ) (xs : List ℤ) where
  pub weighed_more : (k : ℕ) → ((r : ℕ) → r < k → ¬ (β r ≡ β k)) → β k < length xs → Weighed β f k xs → Weighed β f (k + 1) (set xs (β k) (f k))
  weighed_more k apart inside W = record {
    rows = λ r l. ⊎_elim
        (λ (e : r ≡ k). rw e (get_or-set_same xs (β k) (f k) (pos 0) inside))
        (λ n. get_or-set_other xs (β k) (β r) (f k) (pos 0) (apart r (omega arith)) ∙ W.rows r (omega arith))
        (cases_eq r k);
    others = λ l n. get_or-set_other xs (β k) l (f k) (pos 0) (λ e. n k (omega arith) (sym e)) ∙ W.others l (λ r h. n r (omega arith));
  }

-- Those are the limits of the rows, where no two rows have the same.
abbrev pub WeighedBy : Shape → List ℤ → ℕ → ℕ → List ℤ → Type 0
WeighedBy c ws j k xs = (β : ℕ → ℕ) → ((r : ℕ) → r < c.commands → entries ws (1 + r) ≡ pos (β r)) → ((r s : ℕ) → r < c.commands → s < c.commands → β r ≡ β s → r ≡ s)
    → Weighed β (λ r. neg_ℤ (number_at c ws r (limit_column c j))) k xs

-- The limit that a row is told to have is one of the plant's.
pub row_known : (c : Shape) (ws : List ℤ) (r l : ℕ) → RowsKnown c ws → r < c.commands → entries ws (1 + r) ≡ pos l → l < c.limits
row_known c ws r l known inside e = let (k, inside', named) = known r inside in omega (arith, ints, e, named, inside')

-- One row more, with its limit and its weight.
pub weighed_row : (c : Shape) (ws : List ℤ) (j k : ℕ) (xs : List ℤ) (l : ℕ) (z : ℤ) → k < c.commands → entries ws (1 + k) ≡ pos l → z ≡ neg_ℤ (number_at c ws k (limit_column c j)) → l < length xs
    → WeighedBy c ws j k xs → WeighedBy c ws j (k + 1) (set xs l z)
weighed_row c ws j k xs l z inside limit weight fits W β names apart =
    let f = λ (r : ℕ). neg_ℤ (number_at c ws r (limit_column c j)) in
    let same : β k ≡ l = omega (arith, ints, names k inside, limit) in
    let placed : set xs (β k) (f k) ≡ set xs l z = ap (λ n. set xs n (f k)) same ∙ ap (set xs l) (sym weight) in
    subst (Weighed β f (k + 1)) placed (weighed_more β f xs k (λ r h e. let d : r ≡ k = apart r k (omega arith) inside e in omega arith) (omega arith) (W β names apart))

module _ (p : Meaning) (X : CornerOf p) (ws : List ℤ) (H : Held p (column p) X.β X.D X.U ws) (j : ℕ) (known : j < limits p) (out : ¬ InBasis p X j) (xs : List ℤ) (long : length xs ≡ tray_size) (fits : limits p ≤ tray_size)
    (W : Weighed X.β (λ r. neg_ℤ (number_at (shape_of p) ws r (limit_column (shape_of p) j))) (commands p) xs) where
  -- The weights of the rows, and then the denominator at the limit itself.
  weights_list : WeightsList p X j (set xs j (entries ws 0))
  weights_list = record {
    long = length-set xs j (entries ws 0) ∙ long;
    weights = record {
      own = get_or-set_same xs j (entries ws 0) (pos 0) (omega arith) ∙ H.denominator;
      rows = λ r l. get_or-set_other xs j (X.β r) (entries ws 0) (pos 0) (λ e. out (r, l, e)) ∙ W.rows r l ∙ ap neg_ℤ (H.basis_rows r (limit_column (shape_of p) j) l (omega arith) ∙ in_limit p (column p) X.β X.D X.U r j);
      others = λ l h n o. get_or-set_other xs j l (entries ws 0) (pos 0) n ∙ W.others l (λ r k e. o (r, k, e));
    };
    rest = λ l h. get_or-set_other xs j l (entries ws 0) (pos 0) (λ e. omega arith) ∙ W.others l (λ r k e. let n = X.known r k in omega arith);
  }

pub weights_answered : (c : Shape) (ws : List ℤ) (j : ℕ) (xs : List ℤ) → j < c.limits → c.limits ≤ tray_size → length xs ≡ tray_size → WeighedBy c ws j c.commands xs → WeightsAnswer c j ws (set xs j (entries ws 0))
weights_answered c ws j xs known few long W p X same H out =
    let at = λ (s : Shape). (j < s.limits → s.limits ≤ tray_size → WeighedBy s ws j s.commands xs → WeightsList p X j (set xs j (entries ws 0))) in
    subst at (sym same) (λ known' few' W'. weights_list p X ws H j known' out xs long few' (W' X.β H.limits (injective (commands p) (column p) X.β X.D X.U X.inverse))) known few W

-- Words that hold a corner of the plant: their rows belong to its limits.
pub rows_known : (c : Shape) (p : Meaning) (X : CornerOf p) (ws : List ℤ) → c ≡ shape_of p → Held p (column p) X.β X.D X.U ws → RowsKnown c ws
rows_known c p X ws same H = subst (λ (s : Shape). RowsKnown s ws) (sym same) (λ r l. (X.β r, X.known r l, H.limits r l))
