-- Slacks at readings, from the words of a tableau.
use Rattle.std.specs.Prelude.{◌≡◌, ℕ, List, ℤ}
use Rattle.plant.specs.Meaning.{Meaning, shape_of}
use Rattle.tableau.specs.Readings.{at_reading}
use Rattle.tableau.specs.Tableau.{slack_rate}
use Rattle.words.specs.declared.counts.Shape.{Shape}
use Rattle.tableau_words.specs.Held.{Held}

-- The slack of limit j in the tableau of β at the readings θ.
abbrev pub slack_of : (p : Meaning) (a : ℕ → ℕ → ℤ) (β : ℕ → ℕ) (D : ℤ) (U : ℕ → ℕ → ℤ) → List ℤ → ℕ → ℤ
slack_of p a β D U θ j = at_reading p θ (λ k. slack_rate p a β D U k j)

-- It is the slack in any tableau that the words hold.
abbrev pub SlackAnswer : Shape → List ℤ → ℕ → List ℤ → ℤ → Type 0
SlackAnswer c θ j ws z = (p : Meaning) (a : ℕ → ℕ → ℤ) (β : ℕ → ℕ) (D : ℤ) (U : ℕ → ℕ → ℤ) → c ≡ shape_of p → Held p a β D U ws → z ≡ slack_of p a β D U θ j
