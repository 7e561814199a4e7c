-- The sizes that numbers and vectors are held to.
use Rattle.std.specs.Prelude.{ℕ, ◌≤◌, List, ℤ, unsigned_abs}
use Rattle.exact.specs.Vectors.{entries}

-- The greatest size of a number: 2 ^ 27 - 1.
abbrev pub width : ℕ
width = 134217727

-- The greatest length of a vector whose dot products fit 64 bits at this width.
abbrev pub longest : ℕ
longest = 512

-- A number is in width, on either side of 0.
abbrev pub InWidth : ℤ → Type 0
InWidth z = unsigned_abs z ≤ width

-- Every number of a list is in width; past the end of the list the entries are 0.
abbrev pub AllInWidth : List ℤ → Type 0
AllInWidth xs = (i : ℕ) → InWidth (entries xs i)
