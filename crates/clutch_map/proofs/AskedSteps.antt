-- From what a solve and an answer ask to the steps of both, where it is not so.
use Rattle.std.proofs.Common.{◌≡◌, ℕ, ◌<◌, ◌≤◌, List, length, ℤ, Err, refl, ◌∙◌}
use Rattle.bounded_list.specs.Contents.{contents}
use Rattle.plant_table.specs.Tabled.{meaning_of}
use Rattle.trays.specs.Trays.{tray_size}
use Rattle.words.specs.declared.refusal.Refusal.TheVariants.{NotBegun, Reading, PlaceShort}
use Rattle.map_steps.specs.ReadingFaults.{ReadingsFit, ReadingsFaulty}
use Rattle.map_steps.specs.Steps.{Ready, solve_not_begun, solve_reading, solve_short, answer_not_begun, answer_reading, answer_short}
use Rattle.clutch_map.specs.Asked.{AskedAnswer}
use Rattle.clutch_map.specs.Views.{seen}
use Rattle.clutch_map.specs.declared.map.Map.{Map}
use Rattle.clutch_map.proofs.Seen.{masks_long, some_force}

module _ (m : Map) (θ tray : List ℤ) where
  pub not_begun : length (contents m.corners) ≡ 0 → AskedAnswer m θ tray (Err NotBegun)
  not_begun none = λ es most. (solve_not_begun (masks_long (contents m.corners) ∙ none) refl, answer_not_begun (masks_long (contents m.corners) ∙ none) refl)

  module _ (some : 0 < length (contents m.corners)) where
    pub faulty : (place : ℕ) → ReadingsFaulty (meaning_of m.table) θ place → AskedAnswer m θ tray (Err (Reading place))
    faulty place wrong = λ es most. let force = some_force (contents m.corners) m.kind (meaning_of m.table) some in (solve_reading _ force wrong refl, answer_reading _ force wrong refl)

    module _ (fit : ReadingsFit (meaning_of m.table) θ) where
      pub short : length tray < tray_size → AskedAnswer m θ tray (Err (PlaceShort tray_size))
      short less = λ es most. let force = some_force (contents m.corners) m.kind (meaning_of m.table) some in (solve_short _ force fit less refl, answer_short _ force fit less refl)

      pub ready : tray_size ≤ length tray → (es : List _) (most : ℕ) → Ready (seen m tray es most) θ (record { kind = m.kind; meaning = meaning_of m.table })
      ready wide es most = record { force = some_force (contents m.corners) m.kind (meaning_of m.table) some; readings = fit; tray = wide }
