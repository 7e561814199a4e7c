-- The words that the bytes of the input are.
use Rattle.std.specs.Prelude.{◌≡◌, ℕ, ◌+◌, ◌*◌, ◌/◌, ◌<◌, min, List, length, slice_index}

-- The most words that are looked at.
abbrev pub most_words : ℕ
most_words = 16384

-- Word k has four bytes, the lowest first.
abbrev pub word_at : List ℕ → ℕ → ℕ
word_at bs k = slice_index bs (4 * k) + slice_index bs (4 * k + 1) * 256 + slice_index bs (4 * k + 2) * 65536 + slice_index bs (4 * k + 3) * 16777216

-- Loose bytes at the end are dropped.
pub record WordsOf (bs ws : List ℕ) : Type 0 where
  pub many : length ws ≡ min (length bs / 4) most_words
  pub each : (k : ℕ) → k < length ws → slice_index ws k ≡ word_at bs k
