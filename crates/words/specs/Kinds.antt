-- The kinds of words.
use Rattle.std.specs.Prelude.{◌≡◌, ℕ, ◌<◌, ◌⊎◌, Some, None, Option}
use Rattle.words.specs.declared.kind.Kind.{Kind}
use Rattle.words.specs.declared.kind.Kind.TheVariants.{Head, Gain, Coefficient, Constant, Slope, Close, Range, Reading, MapHead, Mask, Divisor, Law, Slack, MapClose}

-- The number of a kind.
abbrev pub code : Kind → ℕ
code Head = 1
code Gain = 2
code Coefficient = 3
code Constant = 4
code Slope = 5
code Close = 6
code Range = 7
code Reading = 8
code MapHead = 9
code Mask = 10
code Divisor = 11
code Law = 12
code Slack = 13
code MapClose = 14

-- A word with these four bits on top is of this kind, or of none.
abbrev pub IsKind : ℕ → Option Kind → Type 0
IsKind b (Some kind) = b ≡ code kind
IsKind b None = (b ≡ 0) ⊎ (14 < b)
