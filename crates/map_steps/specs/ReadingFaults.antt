-- Which readings a plant takes.
use Rattle.std.specs.Prelude.{◌≡◌, ℕ, ◌+◌, ◌<◌, ◌≤◌, List, length, ℤ, unsigned_abs}
use Rattle.exact.specs.Vectors.{entries}
use Rattle.plant.specs.Meaning.{Meaning}

-- The largest size of a reading.
abbrev pub largest_reading : ℕ
largest_reading = 30000

abbrev pub InRange : ℤ → Type 0
InRange z = unsigned_abs z ≤ largest_reading

-- There are as many as the plant has readings, and each is in range.
pub record ReadingsFit (p : Meaning) (θ : List ℤ) : Type 0 where
  pub many : length θ ≡ p.readings
  pub each : (k : ℕ) → k < length θ → InRange (entries θ k)

-- The place of the fault: 0 for another number of readings, else that of the first reading out of range, from 1.
pub data ReadingsFaulty (p : Meaning) (θ : List ℤ) : ℕ → Type 0 where
  number : ¬ (length θ ≡ p.readings) → ReadingsFaulty p θ 0
  range : {place : ℕ} (k : ℕ) → length θ ≡ p.readings → k < length θ → ¬ InRange (entries θ k) → ((i : ℕ) → i < k → InRange (entries θ i)) → place ≡ k + 1 → ReadingsFaulty p θ place
