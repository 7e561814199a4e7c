-- Commands of a plant, and which is best. Commands are fractions, and everything is said in whole numbers by multiplying out.
use Rattle.std.specs.Prelude.{◌≡◌, ℕ, zero, suc, ◌<◌, List, length, ℤ, pos, ◌+ℤ◌, ◌*ℤ◌, ◌≤ℤ◌, ◌<ℤ◌, slice_index_or}
use Rattle.exact.specs.Vectors.{dot, entries}
use Rattle.exact.specs.Lists.{Positive, Before}
use Rattle.plant.specs.Meaning.{Meaning, Limit, no_limit}

-- The limit at a place from 0.
abbrev pub limit_at : Meaning → ℕ → Limit
limit_at p j = slice_index_or p.limits j no_limit

-- Its column.
abbrev pub column : Meaning → ℕ → ℕ → ℤ
column p j = entries (limit_at p j).coefficients

-- What a limit allows at a reading: its constant and each slope times its reading.
abbrev pub side : Meaning → List ℤ → ℕ → ℤ
side p θ j = (limit_at p j).constant +ℤ dot p.readings (entries (limit_at p j).slopes) (entries θ)

-- A command: a whole number for each command of the plant, all over one whole number from 1 up.
pub record Command : Type 0 where
  pub numerators : ℕ → ℤ
  pub denominator : ℤ
  pub above : pos 0 <ℤ denominator

-- Two commands that are the same fractions.
abbrev pub Same : Meaning → Command → Command → Type 0
Same p v w = (i : ℕ) → i < length p.gains → v.numerators i *ℤ w.denominator ≡ w.numerators i *ℤ v.denominator

-- A command keeps a limit at a reading when the limit's coefficients times the command are at most what the limit allows.
abbrev pub Keeps : Meaning → List ℤ → ℕ → Command → Type 0
Keeps p θ j v = dot (length p.gains) (column p j) v.numerators ≤ℤ (v.denominator *ℤ side p θ j)

abbrev pub KeepsAll : Meaning → List ℤ → Command → Type 0
KeepsAll p θ v = (j : ℕ) → j < length p.limits → Keeps p θ j v

-- The list by which commands and directions are compared: the gain, then the entries in order.
abbrev pub value : Meaning → (ℕ → ℤ) → ℕ → ℤ
value p x zero = dot (length p.gains) (entries p.gains) x
value p x (suc i) = x i

-- Of two commands the better has the greater gain and, at equal gain, the greater entry at the first place where they differ.
abbrev pub Better : Meaning → Command → Command → Type 0
Better p v w = Before (suc (length p.gains)) (value p w.numerators) w.denominator (value p v.numerators) v.denominator

-- The best command at a reading keeps every limit and is better than every other that does.
pub record Best (p : Meaning) (θ : List ℤ) (v : Command) : Type 0 where
  pub keeps : KeepsAll p θ v
  pub better : (w : Command) → KeepsAll p θ w → (Same p v w → ⊥) → Better p v w

-- No command keeps every limit at a reading.
abbrev pub HasNoCommand : Meaning → List ℤ → Type 0
HasNoCommand p θ = (v : Command) → KeepsAll p θ v → ⊥

-- A direction, by its numerators, is free when no limit stops it however far it goes.
abbrev pub Free : Meaning → (ℕ → ℤ) → Type 0
Free p y = (j : ℕ) → j < length p.limits → dot (length p.gains) (column p j) y ≤ℤ pos 0

-- It is better than standing still when it is better than the direction of zeros.
abbrev pub BetterThanStill : Meaning → (ℕ → ℤ) → Type 0
BetterThanStill p y = Positive (suc (length p.gains)) (value p y)
