-- The sizes that a guard is made for.
use Rattle.std.specs.Prelude.{ℕ}

-- The most words that a guard holds a copy of.
abbrev pub most_words : ℕ
most_words = 4096
