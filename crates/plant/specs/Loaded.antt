-- What load answers.
use Rattle.std.specs.Prelude.{ℕ, List, Ok, Err, Result}
use Rattle.words.specs.Faults.{Faulty}
use Rattle.words.specs.declared.counts.Counts.{Counts}
use Rattle.words.specs.declared.refusal.Refusal.{Refusal}
use Rattle.plant.specs.Meaning.{Meaning}
use Rattle.plant.specs.Described.{Describes}
use Rattle.plant.specs.Written.{said}

-- The counts with which the written-out plant over these words is the plant that the words describe; or the refusal that the
-- words earn, and then they describe no plant.
abbrev pub Loaded : List ℕ → Result Counts Refusal → Type 0
Loaded ws (Ok c) = Describes ws (said ws c.shape)
Loaded ws (Err e) = Faulty ws e × ((p : Meaning) → Describes ws p → ⊥)
