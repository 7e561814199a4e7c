-- What the program finds in its words: a plant, with or without ranges, or a refusal.
use Rattle.std.specs.Prelude.{◌≡◌, ℕ, ◌+◌, ◌*◌, List, length, take, ℤ, Ok, Err, Result}
use Rattle.words.specs.Faults.{Faulty}
use Rattle.words.specs.declared.counts.Shape.{Shape}
use Rattle.words.specs.declared.refusal.Refusal.{Refusal}
use Rattle.plant.specs.Meaning.{Meaning, shape_of}
use Rattle.plant.specs.Described.{Describes}
use Rattle.plant.specs.Ranged.{ranged_by}
use Rattle.plant.specs.declared.range_table.RangeTable.{RangeTable}
use Rattle.plant.specs.Ranges.{with_ranges, RangesFit, RangeFaulty}
use Rattle.input.specs.Split.{PlantEnds, RangeFollows, RangeWords, RangeWordsFaulty, Payloads}

module _ (ws : List ℕ) (n : ℕ) where
  -- After the n words of a plant stand its lows and then its highs.
  pub record RangesAre (p : Meaning) (lows highs : List ℤ) : Type 0 where
    pub follows : RangeFollows ws n
    pub range_words : RangeWords ws n (2 * length p.gains)
    pub as_many_lows : length lows ≡ length p.gains
    pub as_many_highs : length highs ≡ length p.gains
    pub low_payloads : Payloads ws n (length p.gains) lows
    pub high_payloads : Payloads ws (n + length p.gains) (length p.gains) highs

  -- What comes of a plant in the first n words: its counts, or with a range after it those with the range, or what is wrong with
  -- the range words or with the range.
  pub data RangeVerdict (p : Meaning) : Result Shape Refusal → Type 0 where
    no_range : {c : Shape} → (RangeFollows ws n → ⊥) → c ≡ shape_of p → RangeVerdict p (Ok c)
    wrong_words : {e : Refusal} → RangeFollows ws n → RangeWordsFaulty ws n (2 * length p.gains) e → RangeVerdict p (Err e)
    wrong_range : {e : Refusal} (lows highs : List ℤ) → RangesAre p lows highs → RangeFaulty lows highs (shape_of p) e → RangeVerdict p (Err e)
    ranged : {c : Shape} (lows highs : List ℤ) → RangesAre p lows highs → RangesFit lows highs (shape_of p) → c ≡ shape_of (with_ranges p lows highs) → RangeVerdict p (Ok c)

  -- What comes of the range words after a plant: a table with which the ranged plant over it is the plant with these ranges, or what is
  -- wrong with the range words or with the range.
  abbrev pub TableVerdict : Meaning → Result RangeTable Refusal → Type 0
  TableVerdict p (Ok t) = (lows : List ℤ) × (highs : List ℤ) × RangesAre p lows highs × RangesFit lows highs (shape_of p) × (ranged_by t p ≡ with_ranges p lows highs)
  TableVerdict p (Err e) = RangeVerdict p (Err e)

  -- What comes of the first n words as a plant.
  pub data PlantVerdict : Result Shape Refusal → Type 0 where
    no_plant : {e : Refusal} → Faulty (take n ws) e → PlantVerdict (Err e)
    plant : {r : Result Shape Refusal} (p : Meaning) → Describes (take n ws) p → RangeVerdict p r → PlantVerdict r

abbrev pub Judged : List ℕ → Result Shape Refusal → Type 0
Judged ws r = (n : ℕ) × PlantEnds ws n × PlantVerdict ws n r

-- Every input gets one verdict.
abbrev pub HasOneVerdict : Type 0
HasOneVerdict = (ws : List ℕ) (r s : Result Shape Refusal) → Judged ws r → Judged ws s → r ≡ s
