-- Perturbed programs, with ε = 1 / N for every N from some number on; all is multiplied out to whole numbers.
use Rattle.std.specs.Prelude.{ℕ, suc, ◌-◌, ◌^◌, ◌≤◌, List, ℤ, pos, ◌+ℤ◌, ◌*ℤ◌}
use Rattle.exact.specs.Vectors.{sum, entries}
use Rattle.plant.specs.Meaning.{Meaning}
use Rattle.plant.specs.Commands.{side}
use Rattle.tableau.specs.Plants.{commands, limits}

-- P holds for every N from some number on.
abbrev pub ForLarge : (ℕ → Type 0) → Type 0
ForLarge P = (N₀ : ℕ) × ((N : ℕ) → N₀ ≤ N → P N)

-- N ^ (w - 1) times the number u_0 + u_1 ε + .. + u_(w - 1) ε ^ (w - 1).
abbrev pub expansion : ℕ → (ℕ → ℤ) → ℕ → ℤ
expansion w u N = sum w (λ i. u i *ℤ pos (N ^ (w - suc i)))

-- N ^ m times the gains b_1 + ε, b_2 + ε ^ 2, .., b_m + ε ^ m.
abbrev pub perturbed_gains : Meaning → ℕ → ℕ → ℤ
perturbed_gains p N c = entries p.gains c *ℤ pos (N ^ commands p) +ℤ pos (N ^ (commands p - suc c))

-- N ^ n times the sides h_1 + ε, h_2 + ε ^ 2, .., h_n + ε ^ n.
abbrev pub perturbed_sides : Meaning → List ℤ → ℕ → ℕ → ℤ
perturbed_sides p θ N l = side p θ l *ℤ pos (N ^ limits p) +ℤ pos (N ^ (limits p - suc l))
