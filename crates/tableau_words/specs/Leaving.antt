-- Which limit leaves, read from the words of a tableau.
use Rattle.std.specs.Prelude.{◌≡◌, ℕ, suc, ◌<◌, List, ℤ, pos, ◌≤ℤ◌, Some, None, Option}
use Rattle.plant.specs.Commands.{value}
use Rattle.plant.specs.Meaning.{Meaning, shape_of}
use Rattle.tableau.specs.Exchange.{Leaves}
use Rattle.tableau.specs.Plants.{commands}
use Rattle.tableau.specs.Tableau.{entry}
use Rattle.words.specs.declared.counts.Shape.{Shape}
use Rattle.tableau_words.specs.Held.{Held}

-- Of any tableau that the words hold, the limit of row r leaves when limit j enters; or no row has T_rj > 0.
abbrev pub LeavingAnswer : Shape → ℕ → List ℤ → Option ℕ → Type 0
LeavingAnswer c j ws (Some r) = (p : Meaning) (a : ℕ → ℕ → ℤ) (β : ℕ → ℕ) (D : ℤ) (U : ℕ → ℕ → ℤ) → c ≡ shape_of p → Held p a β D U ws → Leaves (commands p) a (suc (commands p)) (value p) U j r
LeavingAnswer c j ws None = (p : Meaning) (a : ℕ → ℕ → ℤ) (β : ℕ → ℕ) (D : ℤ) (U : ℕ → ℕ → ℤ) → c ≡ shape_of p → Held p a β D U ws → (r : ℕ) → r < commands p → entry p a U r j ≤ℤ pos 0
