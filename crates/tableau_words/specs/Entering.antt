-- Which limits are willing to enter, read from the words of a tableau.
use Rattle.std.specs.Prelude.{◌≡◌, ℕ, ◌<◌, Bool, true, false, List, ℤ, pos, Some, None, Option}
use Rattle.plant.specs.Meaning.{Meaning, shape_of}
use Rattle.tableau.specs.Plants.{commands}
use Rattle.tableau.specs.Points.{Willing}
use Rattle.tableau.specs.Tableau.{Tableau, entry}
use Rattle.words.specs.declared.counts.Shape.{Shape}
use Rattle.tableau_words.specs.Held.{Held}
use Rattle.tableau_words.specs.Slacks.{slack_of}

-- Row q has the least limit below j, of those in the basis, with T_qj other than 0.
pub record IsFirstBelow (p : Meaning) (a : ℕ → ℕ → ℤ) (β : ℕ → ℕ) (U : ℕ → ℕ → ℤ) (j q : ℕ) : Type 0 where
  pub inside : q < commands p
  pub below : β q < j
  pub nonzero : ¬ (entry p a U q j ≡ pos 0)
  pub first : (s : ℕ) → s < commands p → β s < β q → entry p a U s j ≡ pos 0

-- The number T_qj of that row, or that no limit below j has T_sj other than 0.
abbrev pub BelowAnswer : Shape → ℕ → List ℤ → Option ℤ → Type 0
BelowAnswer c j ws (Some t) = (p : Meaning) (a : ℕ → ℕ → ℤ) (β : ℕ → ℕ) (D : ℤ) (U : ℕ → ℕ → ℤ) → c ≡ shape_of p → Held p a β D U ws → (q : ℕ) × IsFirstBelow p a β U j q × (t ≡ entry p a U q j)
BelowAnswer c j ws None = (p : Meaning) (a : ℕ → ℕ → ℤ) (β : ℕ → ℕ) (D : ℤ) (U : ℕ → ℕ → ℤ) → c ≡ shape_of p → Held p a β D U ws → (s : ℕ) → s < commands p → β s < j → entry p a U s j ≡ pos 0

-- Limit j of the tableau of β is willing to enter at the readings θ.
abbrev pub WillingOf : (p : Meaning) (a : ℕ → ℕ → ℤ) (β : ℕ → ℕ) (D : ℤ) (U : ℕ → ℕ → ℤ) → List ℤ → ℕ → Type 0
WillingOf p a β D U θ j = Willing (commands p) a β U (slack_of p a β D U θ j) j

-- Whether limit j is willing in any tableau that the words hold.
abbrev pub WillingAnswer : Shape → List ℤ → ℕ → List ℤ → Bool → Type 0
WillingAnswer c θ j ws true = (p : Meaning) (a : ℕ → ℕ → ℤ) (β : ℕ → ℕ) (D : ℤ) (U : ℕ → ℕ → ℤ) → c ≡ shape_of p → Tableau (commands p) a β D U → Held p a β D U ws → WillingOf p a β D U θ j
WillingAnswer c θ j ws false = (p : Meaning) (a : ℕ → ℕ → ℤ) (β : ℕ → ℕ) (D : ℤ) (U : ℕ → ℕ → ℤ) → c ≡ shape_of p → Tableau (commands p) a β D U → Held p a β D U ws → ¬ WillingOf p a β D U θ j

-- The least willing limit, or that none is willing.
abbrev pub EnteringAnswer : Shape → List ℤ → List ℤ → Option ℕ → Type 0
EnteringAnswer c θ ws (Some j) = (j < c.limits) × WillingAnswer c θ j ws true × ((i : ℕ) → i < j → WillingAnswer c θ i ws false)
EnteringAnswer c θ ws None = (i : ℕ) → i < c.limits → WillingAnswer c θ i ws false
