-- What is wrong with a reading, for a plant with so many readings.
use Rattle.std.specs.Prelude.{◌≡◌, ℕ, List, ℤ, Ok, Err, Result}
use Rattle.plant.specs.Meaning.{Meaning}
use Rattle.words.specs.declared.refusal.Refusal.{Refusal}
use Rattle.words.specs.declared.refusal.Refusal.TheVariants.{Reading}
use Rattle.map_steps.specs.ReadingFaults.{ReadingsFit, ReadingsFaulty}

-- That it has no fault, or a refusal that tells the place of its fault.
abbrev pub FaultAnswer : {A : Type 0} → ℕ → List ℤ → Result A Refusal → Type 0
FaultAnswer d θ (Ok r) = (p : Meaning) → d ≡ p.readings → ReadingsFit p θ
FaultAnswer d θ (Err e) = (place : ℕ) × (e ≡ Reading place) × ((p : Meaning) → d ≡ p.readings → ReadingsFaulty p θ place)
