-- The direction of the search, number by number.
use Rattle.std.proofs.Common.{◌≡◌, ℕ, ◌+◌, ◌<◌, List, ◌++◌, length, drop, set, replicate, ℤ, pos, ◌*ℤ◌, sym, ap, ◌∙◌, subst}
use Rattle.std.proofs.lemmas.List.Edits.{fill_by_more}
use Rattle.exact.specs.Vectors.{entries}
use Rattle.exact.proofs.Sums.{sum_cong}
use Rattle.plant.specs.Meaning.{Meaning, shape_of}
use Rattle.tableau.specs.Artificial.{is_artificial}
use Rattle.tableau.specs.Plants.{commands, limits, all_columns, SearchCorner}
use Rattle.tableau.specs.Search.{direction}
use Rattle.tableau_words.specs.Artificial.{ArtificialSum}
use Rattle.tableau_words.specs.Held.{Held}
use Rattle.tableau_words.proofs.Across.{in_command}
use Rattle.words.specs.declared.counts.Shape.{Shape}
use Rattle.trays.specs.Directions.{DirectionAnswer}
use Rattle.trays.specs.Trays.{tray_size, filled, first}
use Rattle.trays.proofs.Fills.{vector_filled}

-- The first k numbers are those of the direction at any corner of the search that the words hold.
abbrev pub Directed : Shape → List ℤ → ℕ → List ℤ → Type 0
Directed c ws k xs = (p : Meaning) (X : SearchCorner p) → c ≡ shape_of p → Held p (all_columns p) X.β X.D X.U ws → (i : ℕ) → i < k → entries xs i ≡ direction p X i

-- The sum of column 1 + i over the rows of artificial limits.
column_sum : (c : Shape) (ws : List ℤ) (i : ℕ) (z : ℤ) → i < c.commands → ArtificialSum c (1 + i) ws z
    → (p : Meaning) (X : SearchCorner p) → c ≡ shape_of p → Held p (all_columns p) X.β X.D X.U ws → z ≡ direction p X i
column_sum c ws i z inside A p X same H =
    let inside' : i < commands p = subst (λ (s : Shape). i < s.commands) same inside in
    A p (all_columns p) X.β X.D X.U same H ∙ sum_cong (commands p) _ _ (λ r l. ap (λ x. is_artificial (limits p) (X.β r) *ℤ x) (in_command p (all_columns p) X.β X.D X.U r i inside'))

pub directed_more : (c : Shape) (ws : List ℤ) (k : ℕ) (xs : List ℤ) (z : ℤ) → k < c.commands → k < length xs → ArtificialSum c (1 + k) ws z → Directed c ws k xs → Directed c ws (k + 1) (set xs k z)
directed_more c ws k xs z inside fits A I p X same H =
    subst (λ y. (i : ℕ) → i < k + 1 → entries (set xs k y) i ≡ direction p X i) (sym (column_sum c ws k z inside A p X same H)) (fill_by_more (direction p X) xs k (pos 0) fits (I p X same H))

pub directed_all : (c : Shape) (ws xs : List ℤ) → length xs ≡ c.commands → Directed c ws c.commands xs → DirectionAnswer c ws (xs ++ drop c.commands (replicate tray_size (pos 0)))
directed_all c ws xs long I p X same H = vector_filled c.commands (direction p X) xs long (I p X same H) ∙ ap (λ (s : Shape). filled (first s.commands (direction p X))) same
