-- The rows of the constants and the readings, at readings.
use Rattle.std.specs.Prelude.{ℕ, suc, ◌+◌, List, ℤ, ◌*ℤ◌}
use Rattle.exact.specs.Vectors.{sum}
use Rattle.tableau.specs.Plants.{with_one}
use Rattle.words.specs.declared.counts.Shape.{Shape}
use Rattle.tableau_words.specs.Layout.{number_at}

-- The sum over k from 0 to d of θ_k times the number in a column of the row of the constants (k = 0) or of reading k.
abbrev pub column_at : Shape → List ℤ → List ℤ → ℕ → ℤ
column_at c θ ws i = sum (suc c.readings) (λ k. with_one θ k *ℤ number_at c ws (c.commands + k) i)
