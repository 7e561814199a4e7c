-- Lists by their places.
use Rattle.std.specs.Prelude.{◌≡◌, ℕ, ◌+◌, ◌-◌, ◌<◌, cond, ◌⊎◌, List, map, Some, None, Option, ◌==◌}
use Rattle.std.specs.List.{slice_get, range_with_len}

-- What stands at a place that counts from 1: nothing at 0 and past the end.
abbrev pub at_place : {X : Type 0} → List X → ℕ → Option X
at_place xs i = cond (i == 0) None (slice_get xs (i - 1))

-- What a part of a thing says, where there is the thing.
abbrev pub within : {X Y : Type 0} → Option X → (X → Option Y) → Option Y
within None f = None
within (Some x) f = f x

-- The list of what f says at each place below n, from 0.
abbrev pub table : {X : Type 0} → ℕ → (ℕ → X) → List X
table n f = map f (range_with_len 0 n)

-- The place from 0 of what counts from 1, within a count.
abbrev pub Found : ℕ → ℕ → Option ℕ → Type 0
Found n i None = (i ≡ 0) ⊎ (n < i)
Found n i (Some k) = (i ≡ k + 1) × (k < n)
