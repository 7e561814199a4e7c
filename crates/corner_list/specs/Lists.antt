-- Whether a list has a record with a mask.
use Rattle.std.specs.Prelude.{◌≡◌, ℕ, ◌<◌, Bool, true, false, List, length}
use Rattle.corner_list.specs.Records.{corner}
use Rattle.corner_list.specs.declared.corner.Corner.{Corner}

-- Some record has the mask, or none has.
abbrev pub ListsAnswer : List Corner → ℕ → Bool → Type 0
ListsAnswer rs b true = (k : ℕ) × (k < length rs) × ((corner rs k).mask ≡ b)
ListsAnswer rs b false = (k : ℕ) → k < length rs → ¬ ((corner rs k).mask ≡ b)
