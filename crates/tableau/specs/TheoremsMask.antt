-- Masks tell corners apart.
use Rattle.std.specs.Prelude.{ℕ, ◌+◌, ◌^◌, ◌<◌, ◌≡◌}
use Rattle.plant.specs.Meaning.{Meaning}
use Rattle.tableau.specs.Masks.{mask_of}
use Rattle.tableau.specs.Plants.{limits, CornerOf}
use Rattle.tableau.specs.Runs.{HasSameLimits, InBasis, Leaves, Across}

-- It has a bit for each limit of the plant and no more.
abbrev pub MasksAreShort : Type 0
MasksAreShort = (p : Meaning) (X : CornerOf p) → mask_of p X < 2 ^ limits p

-- Corners of one mask have the same limits.
abbrev pub OneMaskOneBasis : Type 0
OneMaskOneBasis = (p : Meaning) (X Y : CornerOf p) → mask_of p X ≡ mask_of p Y → HasSameLimits p X Y

-- And corners of the same limits have one mask.
abbrev pub OneBasisOneMask : Type 0
OneBasisOneMask = (p : Meaning) (X Y : CornerOf p) → HasSameLimits p X Y → mask_of p X ≡ mask_of p Y

-- Across an exchange the bit of the limit that enters comes in place of that of the limit that leaves.
abbrev pub MaskAcross : Type 0
MaskAcross = (p : Meaning) (X Y : CornerOf p) (r j : ℕ) → j < limits p → ¬ InBasis p X j → Leaves p X j r → Across p X r j Y → mask_of p Y + 2 ^ X.β r ≡ mask_of p X + 2 ^ j
