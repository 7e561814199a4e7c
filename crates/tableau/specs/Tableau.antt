-- The tableau of a basis: the inverse of the matrix of its columns, and the rows that are derived from it.
use Rattle.std.specs.Prelude.{ℕ, ◌<◌, ◌≤◌, ℤ}
use Rattle.exact.specs.Bounds.{InWidth}
use Rattle.exact.specs.LowestTerms.{Lowest}
use Rattle.exact.specs.Vectors.{dot, entries}
use Rattle.plant.specs.Meaning.{Meaning}
use Rattle.tableau.specs.Basis.{Inverse}
use Rattle.tableau.specs.Points.{point, slack}
use Rattle.tableau.specs.Plants.{commands, rate}

-- U / D is the inverse, and D is the least denominator: nothing above 1 divides D and all of U.
pub record Tableau (m : ℕ) (a : ℕ → ℕ → ℤ) (β : ℕ → ℕ) (D : ℤ) (U : ℕ → ℕ → ℤ) : Type 0 where
  pub inverse : Inverse m a β D U
  pub lowest : Lowest m D U

-- U_r0 = b · U_r.
abbrev pub row_gain : Meaning → (ℕ → ℕ → ℤ) → ℕ → ℤ
row_gain p U r = dot (commands p) (entries p.gains) (U r)

-- T_rj = a_j · U_r.
abbrev pub entry : Meaning → (ℕ → ℕ → ℤ) → (ℕ → ℕ → ℤ) → ℕ → ℕ → ℤ
entry p a U r j = dot (commands p) (a j) (U r)

-- L_k: the sum of e_jk U_r over the rows, with j the limit of row r.
abbrev pub law : Meaning → (ℕ → ℕ) → (ℕ → ℕ → ℤ) → ℕ → ℕ → ℤ
law p β U k = point (commands p) β U (rate p k)

-- G_k = b · L_k.
abbrev pub law_gain : Meaning → (ℕ → ℕ) → (ℕ → ℕ → ℤ) → ℕ → ℤ
law_gain p β U k = dot (commands p) (entries p.gains) (law p β U k)

-- S_kj = D e_jk - a_j · L_k.
abbrev pub slack_rate : Meaning → (ℕ → ℕ → ℤ) → (ℕ → ℕ) → ℤ → (ℕ → ℕ → ℤ) → ℕ → ℕ → ℤ
slack_rate p a β D U k j = slack (commands p) a β D U (rate p k) j

-- No number of the tableau is out of width, those of the n limits in the basis and outside it.
pub record TableauInWidth (p : Meaning) (n : ℕ) (a : ℕ → ℕ → ℤ) (β : ℕ → ℕ) (D : ℤ) (U : ℕ → ℕ → ℤ) : Type 0 where
  pub denominator : InWidth D
  pub row_gains : (r : ℕ) → r < commands p → InWidth (row_gain p U r)
  pub rows : (r i : ℕ) → r < commands p → i < commands p → InWidth (U r i)
  pub entries : (r j : ℕ) → r < commands p → j < n → InWidth (entry p a U r j)
  pub law_gains : (k : ℕ) → k ≤ p.readings → InWidth (law_gain p β U k)
  pub laws : (k i : ℕ) → k ≤ p.readings → i < commands p → InWidth (law p β U k i)
  pub slack_rates : (k j : ℕ) → k ≤ p.readings → j < n → InWidth (slack_rate p a β D U k j)
