-- The pairs of a listed corner and a limit outside it, in their order: corners as they are listed, limits ascending.
use Rattle.std.specs.Prelude.{◌≡◌, ℕ, zero, suc, ◌+◌, ◌-◌, ◌*◌, ◌<◌, ◌≤◌, cond, List, length, slice_index}
use Rattle.plant.specs.Meaning.{Meaning}
use Rattle.tableau.specs.Masks.{holds, mask_of}
use Rattle.tableau.specs.Plants.{commands, limits, CornerOf}
use Rattle.tableau.specs.Runs.{InBasis}

-- How many limits below j are outside the basis of X.
unfoldable pub outside_below : (p : Meaning) → CornerOf p → ℕ → ℕ
outside_below p X zero = 0
outside_below p X (suc j) = cond (holds (commands p) X.β j) (outside_below p X j) (suc (outside_below p X j))

-- The pairs of one corner.
abbrev pub pairs_each : Meaning → ℕ
pairs_each p = limits p - commands p

-- Every pair of the listed corners has been examined.
abbrev pub AllExamined : Meaning → List ℕ → ℕ → Type 0
AllExamined p masks pairs = (length masks * pairs_each p) ≤ pairs

-- After so many pairs, the one that is due is that of the corner X at place k of the list and limit j.
pub record Due (p : Meaning) (masks : List ℕ) (pairs k : ℕ) (X : CornerOf p) (j : ℕ) : Type 0 where
  pub listed : k < length masks
  pub corner : mask_of p X ≡ slice_index masks k
  pub known : j < limits p
  pub outside : ¬ InBasis p X j
  pub place : pairs ≡ k * pairs_each p + outside_below p X j
