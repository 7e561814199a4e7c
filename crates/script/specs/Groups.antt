-- The readings of the input, after the plant and its ranges, in groups of as many as the plant has readings.
use Rattle.std.specs.Prelude.{◌≡◌, ℕ, ◌+◌, ◌*◌, ◌<◌, ◌≤◌, List, length, Ok, Err, Result, slice_index}
use Rattle.words.specs.Words.{kind_bits}
use Rattle.words.specs.declared.refusal.Refusal.{Refusal}
use Rattle.words.specs.declared.refusal.Refusal.TheVariants.{WrongKind, Reading}
use Rattle.script.specs.declared.groups.Groups.{Groups}

module _ (ws : List ℕ) where
  abbrev pub IsReading : ℕ → Type 0
  IsReading k = kind_bits (slice_index ws k) ≡ 8

  -- The first n words are readings, and no more.
  pub record LeadingReadings (n : ℕ) : Type 0 where
    pub within : n ≤ length ws
    pub readings : (k : ℕ) → k < n → IsReading k
    pub stopped : n < length ws → IsReading n → ⊥

  -- The word at place k is a reading, and the plant has readings.
  abbrev pub IsTaken : ℕ → ℕ → Type 0
  IsTaken each k = (0 < each) × IsReading k

  -- The readings end at the first word that is not taken, or with the words.
  pub record ReadingsEnd (each from end : ℕ) : Type 0 where
    pub after : from ≤ end
    pub within : end ≤ length ws
    pub taken : (k : ℕ) → from ≤ k → k < end → IsTaken each k
    pub stopped : end < length ws → IsTaken each end → ⊥

-- As many whole groups as so many words make; one without words where the plant has no readings.
pub record WholeGroups (each words count : ℕ) : Type 0 where
  pub whole : count * each ≤ words
  pub most : 0 < each → words < (count + 1) * each
  pub one : each ≡ 0 → count ≡ 1

-- The groups of the readings from a place on.
pub record GroupsOf (ws : List ℕ) (from each : ℕ) (g : Groups) : Type 0 where
  pub begin : g.from ≡ from
  pub size : g.each ≡ each
  pub end : ReadingsEnd ws each from g.end
  pub words : ℕ
  pub between : from + words ≡ g.end
  pub groups : WholeGroups each words g.count

-- What is refused behind the groups: a word that is no reading, else a last group that is short.
pub data Closing (many : ℕ) (g : Groups) : Result Unit Refusal → Type 0 where
  other_kind : {k : ℕ} → k ≡ g.end → k < many → Closing many g (Err (WrongKind k))
  short_group : many ≤ g.end → g.from + g.count * g.each < g.end → Closing many g (Err (Reading 0))
  nothing : many ≤ g.end → g.end ≡ g.from + g.count * g.each → Closing many g (Ok tt)
