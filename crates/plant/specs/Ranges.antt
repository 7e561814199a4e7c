-- A low and a high for each command, and what is wrong with them.
use Rattle.std.specs.Prelude.{◌≡◌, ℕ, ◌+◌, ◌*◌, ◌<◌, ◌≤◌, cond, List, ◌++◌, length, ℤ, pos, negsuc, neg_ℤ, ◌≤ℤ◌, ◌==◌, slice_index_or}
use Rattle.words.specs.Bounds.{Value, most_limits}
use Rattle.words.specs.declared.counts.Shape.{Shape}
use Rattle.words.specs.declared.refusal.Refusal.{Refusal}
use Rattle.words.specs.declared.refusal.Refusal.TheVariants.{Value as ValueRefused, Range}
use Rattle.plant.specs.Tables.{table}
use Rattle.plant.specs.Meaning.{Limit, Meaning, shape_of}

-- A number in the column of one command, and 0 in the others.
abbrev pub alone : ℕ → ℤ → ℕ → ℤ
alone i z k = cond (k == i) z (pos 0)

-- The limit that holds a command at or below its high, and the one that holds it at or above its low: −v ≤ −low.
abbrev pub at_most : Shape → ℕ → ℤ → Limit
at_most c i high = record { coefficients = table c.commands (alone i (pos 1)); constant = high; slopes = table c.readings (λ _. pos 0) }

abbrev pub at_least : Shape → ℕ → ℤ → Limit
at_least c i low = record { coefficients = table c.commands (alone i (negsuc 0)); constant = neg_ℤ low; slopes = table c.readings (λ _. pos 0) }

-- The limits that lows and highs add: for each command its high, then for each command its low.
abbrev pub range_limits : Shape → List ℤ → List ℤ → List Limit
range_limits c lows highs = table c.commands (λ i. at_most c i (slice_index_or highs i (pos 0))) ++ table c.commands (λ i. at_least c i (slice_index_or lows i (pos 0)))

-- A plant with ranges: its own limits keep their numbers, and those of the ranges follow.
abbrev pub with_ranges : Meaning → List ℤ → List ℤ → Meaning
with_ranges p lows highs = record { gains = p.gains; readings = p.readings; limits = p.limits ++ range_limits (shape_of p) lows highs }

-- The first numbers of a list are numbers of a plant.
abbrev pub ValuesBefore : List ℤ → ℕ → Type 0
ValuesBefore zs k = (i : ℕ) → i < k → Value (slice_index_or zs i (pos 0))

-- The first number of a list that is none.
abbrev pub FirstNotValue : List ℤ → ℕ → Type 0
FirstNotValue zs k = (k < length zs) × (Value (slice_index_or zs k (pos 0)) → ⊥) × ValuesBefore zs k

module _ (lows highs : List ℤ) where
  abbrev pub AllValues : Type 0
  AllValues = ValuesBefore lows (length lows) × ValuesBefore highs (length highs)

  -- A low and a high for each command, and room for the limits that they add.
  abbrev pub CountsRight : Shape → Type 0
  CountsRight c = (length lows ≡ c.commands) × (length highs ≡ c.commands) × (c.limits + 2 * c.commands ≤ most_limits)

  -- The low of a command is not above its high.
  abbrev pub InOrder : ℕ → Type 0
  InOrder i = slice_index_or lows i (pos 0) ≤ℤ slice_index_or highs i (pos 0)

  -- Lows and highs that may lie over a plant with these counts.
  pub record RangesFit (c : Shape) : Type 0 where
    pub values : AllValues
    pub counts : CountsRight c
    pub order : (i : ℕ) → i < c.commands → InOrder i

  -- The refusal that they earn, by the first test that fails: each low a value, each high a value, the counts, the order.
  pub data RangeFaulty (c : Shape) : Refusal → Type 0 where
    low_not_value : {i : ℕ} (k : ℕ) → i ≡ k + 1 → FirstNotValue lows k → RangeFaulty c (ValueRefused i)
    high_not_value : {i : ℕ} (k : ℕ) → i ≡ k + 1 → ValuesBefore lows (length lows) → FirstNotValue highs k → RangeFaulty c (ValueRefused i)
    counts_wrong : AllValues → (CountsRight c → ⊥) → RangeFaulty c (Range 0)
    crossed : {i : ℕ} (k : ℕ) → i ≡ k + 1 → AllValues → CountsRight c → k < c.commands → (InOrder k → ⊥) → ((h : ℕ) → h < k → InOrder h) → RangeFaulty c (Range i)

-- Lows and highs earn at most one refusal, and none where they fit.
abbrev pub OneRangeRefusal : Type 0
OneRangeRefusal = (lows highs : List ℤ) (c : Shape) (e f : Refusal) → RangeFaulty lows highs c e → RangeFaulty lows highs c f → e ≡ f

abbrev pub RefusedOrFitting : Type 0
RefusedOrFitting = (lows highs : List ℤ) (c : Shape) (e : Refusal) → RangeFaulty lows highs c e → RangesFit lows highs c → ⊥
