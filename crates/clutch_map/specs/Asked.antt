-- What a solve and an answer ask before they look.
use Rattle.std.specs.Prelude.{◌≡◌, ℕ, List, ℤ, Ok, Err, Result}
use Rattle.plant.specs.Meaning.{shape_of}
use Rattle.plant_table.specs.Tabled.{meaning_of}
use Rattle.words.specs.declared.refusal.Refusal.{Refusal}
use Rattle.tableau_words.specs.declared.reading.Reading.{Reading}
use Rattle.corner_runs.specs.declared.exchanges.Exchange.{Exchange}
use Rattle.map_steps.specs.Steps.{Step, Solve, Answer, Ready}
use Rattle.clutch_map.specs.Views.{seen}
use Rattle.clutch_map.specs.declared.map.Map.{Map}

-- The reading has these numbers, which fit the plant in force, and the tray is long enough.
pub record Asked (m : Map) (θ tray : List ℤ) (r : Reading) : Type 0 where
  pub numbers : r.numbers.now ≡ θ
  pub counts : r.counts.shape ≡ shape_of (meaning_of m.table)
  pub ready : (es : List Exchange) (most : ℕ) → Ready (seen m tray es most) θ (record { kind = m.kind; meaning = meaning_of m.table })

-- Or both calls are refused alike, and leave all as it was.
abbrev pub AskedAnswer : Map → List ℤ → List ℤ → Result Reading Refusal → Type 0
AskedAnswer m θ tray (Ok r) = Asked m θ tray r
AskedAnswer m θ tray (Err e) = (es : List Exchange) (most : ℕ) → Step (seen m tray es most) (seen m tray es most) (Solve θ) (Err e) × Step (seen m tray es most) (seen m tray es most) (Answer θ) (Err e)
