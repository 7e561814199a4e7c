-- Sums over the rows of artificial limits, from the words of a tableau.
use Rattle.std.specs.Prelude.{◌≡◌, ℕ, ◌+◌, cond, List, ℤ, pos, ◌*ℤ◌, int_lt}
use Rattle.exact.specs.Vectors.{sum, entries}
use Rattle.plant.specs.Meaning.{Meaning, shape_of}
use Rattle.tableau.specs.Artificial.{is_artificial}
use Rattle.tableau.specs.Plants.{commands, limits}
use Rattle.words.specs.declared.counts.Shape.{Shape}
use Rattle.tableau_words.specs.Layout.{number_at}
use Rattle.tableau_words.specs.Held.{Held, basis_row}

-- The number of row r in column i if its limit is artificial, else 0.
abbrev pub number_if_artificial : Shape → List ℤ → ℕ → ℕ → ℤ
number_if_artificial c ws i r = cond (int_lt (entries ws (1 + r)) (pos c.limits)) (pos 0) (number_at c ws r i)

-- In any tableau that the words hold, z is the sum of the numbers in column i over the rows of artificial limits.
abbrev pub ArtificialSum : Shape → ℕ → List ℤ → ℤ → Type 0
ArtificialSum c i ws z = (p : Meaning) (a : ℕ → ℕ → ℤ) (β : ℕ → ℕ) (D : ℤ) (U : ℕ → ℕ → ℤ) → c ≡ shape_of p → Held p a β D U ws → z ≡ sum (commands p) (λ r. is_artificial (limits p) (β r) *ℤ basis_row p a β D U r i)
