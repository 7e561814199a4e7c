-- The bounds on a plant's counts and numbers.
use Rattle.std.specs.Prelude.{ℕ, ◌≤◌, Bool, ℤ, pos, neg_ℤ, ◌≤ℤ◌, nat_le, unsigned_abs}

abbrev pub most_commands : ℕ
most_commands = 4

abbrev pub most_limits : ℕ
most_limits = 16

abbrev pub most_readings : ℕ
most_readings = 3

-- The largest size of a gain, a coefficient, a constant or a slope.
abbrev pub largest_value : ℕ
largest_value = 10000

-- The counts of some plant: m commands, n limits and d readings.
abbrev pub Counted : ℕ → ℕ → ℕ → Type 0
Counted m n d = (1 ≤ m) × (m ≤ most_commands) × (1 ≤ n) × (n ≤ most_limits) × (d ≤ most_readings)

-- A number of some plant.
abbrev pub Value : ℤ → Type 0
Value z = (neg_ℤ (pos largest_value) ≤ℤ z) × (z ≤ℤ pos largest_value)

-- Is it one?
abbrev pub in_bounds : ℤ → Bool
in_bounds z = nat_le (unsigned_abs z) largest_value
