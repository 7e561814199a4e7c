-- How an exchange rewrites the rows of a tableau.
use Rattle.std.specs.Prelude.{ℕ, ◌<◌, ◌≡◌, ℤ, ◌+ℤ◌, ◌-ℤ◌, ◌*ℤ◌}
use Rattle.plant.specs.Meaning.{Meaning}
use Rattle.tableau.specs.Plants.{commands}
use Rattle.tableau.specs.Tableau.{row_gain, entry, law, law_gain, slack_rate}

-- Limit j enters in row r, t = T_rj, and the new numbers were divided by g. Row r is multiplied by D;
-- of every other row x, with the entry f in column j, each number becomes t x - f y, with y the number of row r in its column.
-- The rows of the readings are kept with the laws and their gains negated.
pub record Rewritten (p : Meaning) (a : ℕ → ℕ → ℤ) (β : ℕ → ℕ) (D : ℤ) (U : ℕ → ℕ → ℤ) (r j : ℕ) (g : ℤ) (β' : ℕ → ℕ) (D' : ℤ) (U' : ℕ → ℕ → ℤ) : Type 0 where
  pub pivot_gain : g *ℤ row_gain p U' r ≡ D *ℤ row_gain p U r
  pub pivot_entries : (i : ℕ) → g *ℤ entry p a U' r i ≡ D *ℤ entry p a U r i
  pub row_gains : (s : ℕ) → s < commands p → ¬ (s ≡ r) → g *ℤ row_gain p U' s ≡ entry p a U r j *ℤ row_gain p U s -ℤ entry p a U s j *ℤ row_gain p U r
  pub entries : (s i : ℕ) → s < commands p → ¬ (s ≡ r) → g *ℤ entry p a U' s i ≡ entry p a U r j *ℤ entry p a U s i -ℤ entry p a U s j *ℤ entry p a U r i
  pub law_gains : (k : ℕ) → g *ℤ law_gain p β' U' k ≡ entry p a U r j *ℤ law_gain p β U k +ℤ slack_rate p a β D U k j *ℤ row_gain p U r
  pub laws : (k i : ℕ) → i < commands p → g *ℤ law p β' U' k i ≡ entry p a U r j *ℤ law p β U k i +ℤ slack_rate p a β D U k j *ℤ U r i
  pub slack_rates : (k i : ℕ) → g *ℤ slack_rate p a β' D' U' k i ≡ entry p a U r j *ℤ slack_rate p a β D U k i -ℤ slack_rate p a β D U k j *ℤ entry p a U r i
