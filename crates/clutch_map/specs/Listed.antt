-- The records of a map.
use Rattle.std.specs.Prelude.{◌≡◌, ℕ, ◌<◌, List, length, ℤ}
use Rattle.corner_list.specs.Records.{corner}
use Rattle.corner_list.specs.declared.corner.Corner.{Corner}

-- The most records that a map uses.
abbrev pub most_records : ℕ
most_records = 256

-- Between calls the working tableau is that of the first listed corner.
abbrev pub AtFirst : List Corner → List ℤ → Type 0
AtFirst cs ws = 0 < length cs → ws ≡ (corner cs 0).words
