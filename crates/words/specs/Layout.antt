-- Which kind of word is due at which place of a plant's words, by the plant's counts alone.
use Rattle.std.specs.Prelude.{◌≡◌, ℕ, ◌+◌, ◌-◌, ◌*◌, ◌/◌, ◌%◌, ◌^◌, cond, ◌==◌, nat_le, nat_lt}
use Rattle.words.specs.Bounds.{Counted}
use Rattle.words.specs.declared.counts.Shape.{Shape}
use Rattle.words.specs.declared.kind.Kind.{Kind}
use Rattle.words.specs.declared.kind.Kind.TheVariants.{Head, Gain, Coefficient, Constant, Slope, Close}

-- The counts that a head says, one in each of the three low bytes of its payload.
abbrev pub shape_in : ℕ → Shape
shape_in head = record { commands = head / 256 % 256; limits = head % 256; readings = head / 65536 % 256 }

-- The four bits above them are spare.
abbrev pub spare_in : ℕ → ℕ
spare_in head = head / 2 ^ 24 % 16

-- The counts are those of some plant.
abbrev pub InBounds : Shape → Type 0
InBounds c = Counted c.commands c.limits c.readings

-- A head that says the counts of a plant.
abbrev pub HeadFits : ℕ → Type 0
HeadFits head = InBounds (shape_in head) × (spare_in head ≡ 0)

-- The words of one limit: its coefficients, its constant and its slopes.
abbrev pub width : Shape → ℕ
width c = c.commands + (1 + c.readings)

-- Where the limit begins that j limits stand before: after the head, the gains and those limits.
abbrev pub limit_place : Shape → ℕ → ℕ
limit_place c j = 1 + c.commands + j * width c

-- Where the close stands, and so what its payload says.
abbrev pub close_place : Shape → ℕ
close_place c = limit_place c c.limits

-- The kind that is due in a column of a limit.
abbrev pub column_kind : Shape → ℕ → Kind
column_kind c i = cond (nat_lt i c.commands) Coefficient (cond (i == c.commands) Constant Slope)

-- The kind that is due at place k.
abbrev pub due : Shape → ℕ → Kind
due c k = cond (k == 0) Head (cond (nat_le k c.commands) Gain (cond (nat_lt k (close_place c)) (column_kind c ((k - (1 + c.commands)) % width c)) Close))
