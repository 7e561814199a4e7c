-- The parts of the input: a plant up to its first close, and range words after it.
use Rattle.std.specs.Prelude.{◌≡◌, ℕ, ◌+◌, ◌*◌, ◌<◌, ◌⊎◌, List, length, ℤ, pos, slice_index, slice_index_or}
use Rattle.words.specs.Bounds.{most_commands}
use Rattle.words.specs.Words.{kind_bits, payload}
use Rattle.words.specs.declared.refusal.Refusal.{Refusal}
use Rattle.words.specs.declared.refusal.Refusal.TheVariants.{Short, WrongKind}

-- A low and a high for each command.
abbrev pub most_range_words : ℕ
most_range_words = 2 * most_commands

module _ (ws : List ℕ) where
  abbrev pub IsClose : ℕ → Type 0
  IsClose k = kind_bits (slice_index ws k) ≡ 6

  abbrev pub IsRange : ℕ → Type 0
  IsRange k = kind_bits (slice_index ws k) ≡ 7

  abbrev pub NoCloseBefore : ℕ → Type 0
  NoCloseBefore k = (i : ℕ) → i < k → IsClose i → ⊥

  -- The plant is the first n words: those up to the first close, or all words where there is none.
  abbrev pub PlantEnds : ℕ → Type 0
  PlantEnds n = ((k : ℕ) × (n ≡ k + 1) × (k < length ws) × IsClose k × NoCloseBefore k) ⊎ ((n ≡ length ws) × NoCloseBefore (length ws))

  -- A range follows the plant when the next word is one of a range.
  abbrev pub RangeFollows : ℕ → Type 0
  RangeFollows n = (n < length ws) × IsRange n

  -- So many words from a place on are there, and are words of a range.
  abbrev pub RangeWords : ℕ → ℕ → Type 0
  RangeWords n count = (i : ℕ) → i < count → (n + i < length ws) × IsRange (n + i)

  -- The refusal where they are not: at the first place that is missing or of another kind.
  pub data RangeWordsFaulty (n count : ℕ) : Refusal → Type 0 where
    missing : {k : ℕ} (i : ℕ) → i < count → n + i ≡ k → k ≡ length ws → RangeWords n i → RangeWordsFaulty n count (Short k)
    other_kind : {k : ℕ} (i : ℕ) → i < count → n + i ≡ k → k < length ws → (IsRange k → ⊥) → RangeWords n i → RangeWordsFaulty n count (WrongKind k)

  -- The numbers are the payloads of so many words from a place on.
  abbrev pub Payloads : ℕ → ℕ → List ℤ → Type 0
  Payloads n count zs = (i : ℕ) → i < count → slice_index_or zs i (pos 0) ≡ payload (slice_index ws (n + i))
