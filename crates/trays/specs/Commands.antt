-- The command of a corner, on a tray.
use Rattle.std.specs.Prelude.{◌≡◌, List, ℤ}
use Rattle.exact.specs.Vectors.{dot, entries}
use Rattle.plant.specs.Commands.{Command, column}
use Rattle.plant.specs.Meaning.{Meaning, shape_of}
use Rattle.tableau.specs.Plants.{commands, CornerOf}
use Rattle.tableau.specs.Readings.{command_at, IsInLowestTerms}
use Rattle.tableau_words.specs.Held.{Held}
use Rattle.words.specs.declared.counts.Shape.{Shape}
use Rattle.trays.specs.Trays.{fraction_list}

-- A command: its numerators, their denominator, its gain over that denominator, and zeros.
abbrev pub command_list : Meaning → Command → List ℤ
command_list p v = fraction_list (commands p) v.numerators v.denominator (dot (commands p) (entries p.gains) v.numerators)

-- Of any corner that the words hold, the command at the readings θ in lowest terms.
abbrev pub CommandAnswer : Shape → List ℤ → List ℤ → List ℤ → Type 0
CommandAnswer c θ ws xs = (p : Meaning) (X : CornerOf p) → c ≡ shape_of p → Held p (column p) X.β X.D X.U ws
    → (v : Command) × IsInLowestTerms p (command_at p X θ) v × (xs ≡ command_list p v)
