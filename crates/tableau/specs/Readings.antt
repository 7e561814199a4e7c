-- A corner of a plant at a reading.
use Rattle.std.specs.Prelude.{ℕ, suc, ◌<◌, ◌≡◌, List, ℤ, pos, ◌*ℤ◌, ◌≤ℤ◌}
use Rattle.exact.specs.Divisors.{Gcd}
use Rattle.exact.specs.Vectors.{sum, first_then}
use Rattle.plant.specs.Meaning.{Meaning}
use Rattle.plant.specs.Commands.{Command, column}
use Rattle.tableau.specs.Points as Points
use Rattle.tableau.specs.Plants.{commands, limits, with_one, CornerOf}
use Rattle.tableau.specs.Tableau.{law, slack_rate}

-- The sum of θ_k f k over k from 0 to d.
abbrev pub at_reading : Meaning → List ℤ → (ℕ → ℤ) → ℤ
at_reading p θ f = sum (suc p.readings) (λ k. with_one θ k *ℤ f k)

-- The slack of limit j.
abbrev pub slack_at : (p : Meaning) → CornerOf p → List ℤ → ℕ → ℤ
slack_at p X θ j = at_reading p θ (λ k. slack_rate p (column p) X.β X.D X.U k j)

-- The region of a corner holds a reading when no slack is negative.
abbrev pub Region : (p : Meaning) → CornerOf p → List ℤ → Type 0
Region p X θ = (j : ℕ) → j < limits p → pos 0 ≤ℤ slack_at p X θ j

-- The command of a corner: P_i / D, with P_i the sum of θ_k L_ki.
abbrev pub command_at : (p : Meaning) → CornerOf p → List ℤ → Command
command_at p X θ = record { numerators = λ i. at_reading p θ (λ k. law p X.β X.U k i); denominator = X.D; above = X.inverse.dpos }

-- The command w is v with its numbers divided by their greatest common divisor.
pub record IsInLowestTerms (p : Meaning) (v w : Command) : Type 0 where
  pub divisor : ℤ
  pub greatest : Gcd (suc (commands p)) (first_then v.denominator v.numerators) divisor
  pub denominator : divisor *ℤ w.denominator ≡ v.denominator
  pub numerators : (i : ℕ) → i < commands p → divisor *ℤ w.numerators i ≡ v.numerators i

-- Limit j is willing to enter at a corner.
abbrev pub WillingAt : (p : Meaning) → CornerOf p → List ℤ → ℕ → Type 0
WillingAt p X θ j = Points.Willing (commands p) (column p) X.β X.U (slack_at p X θ j) j
