-- What is seen of a map.
use Rattle.std.specs.Prelude.{ℕ, List, [], ◌∷◌, map, ℤ, Some, None, Option}
use Rattle.plant.specs.Meaning.{Meaning}
use Rattle.plant_table.specs.Tabled.{meaning_of}
use Rattle.bounded_list.specs.Contents.{contents, room}
use Rattle.bounded_list.specs.declared.list.List.{List as Bounded}
use Rattle.corner_list.specs.declared.corner.Corner.{Corner}
use Rattle.corner_runs.specs.declared.exchanges.Exchange.{Exchange}
use Rattle.map_steps.specs.States.{Standing, State, View}
use Rattle.clutch_map.specs.declared.map.Map.{Map}

-- A plant is in force once a corner is listed.
abbrev pub in_force : List Corner → ℕ → Meaning → Option Standing
in_force [] k p = None
in_force (c ∷ cs) k p = Some (record { kind = k; meaning = p })

abbrev pub masks_of : List Corner → List ℕ
masks_of cs = map (λ c. c.mask) cs

abbrev pub state : Map → State
state m = record { force = in_force (contents m.corners) m.kind (meaning_of m.table); masks = masks_of (contents m.corners); pairs = m.pairs; room = room m.corners }

-- With a tray, and with what a trail holds and can hold.
abbrev pub seen : Map → List ℤ → List Exchange → ℕ → View
seen m tray es most = record { state = state m; tray = tray; trail = es; trail_room = most }

abbrev pub view : Map → List ℤ → Bounded Exchange → View
view m tray trail = seen m tray (contents trail) (room trail)
