-- Which plant a list of words describes.
use Rattle.std.specs.Prelude.{◌≡◌, ℕ, ◌+◌, ◌*◌, ◌^◌, ◌<◌, List, length, ℤ, pos, Some, slice_index}
use Rattle.std.specs.List.{slice_get}
use Rattle.words.specs.Words.{IsWord}
use Rattle.words.specs.Kinds.{code}
use Rattle.words.specs.Layout.{limit_place, close_place}
use Rattle.words.specs.declared.counts.Shape.{Shape}
use Rattle.words.specs.declared.kind.Kind.{Kind}
use Rattle.words.specs.declared.kind.Kind.TheVariants.{Head, Gain, Coefficient, Constant, Slope, Close}
use Rattle.plant.specs.Meaning.{Limit, Meaning, Bounded, shape_of}

-- At place k stands a word of a kind with a number for its payload.
abbrev pub StandsAt : List ℕ → ℕ → Kind → ℤ → Type 0
StandsAt ws k kind z = IsWord (code kind) z (slice_index ws k)

-- The numbers of a list stand one after another from place k on, each in a word of the kind.
abbrev pub AllStand : List ℕ → ℕ → Kind → List ℤ → Type 0
AllStand ws k kind zs = (i : ℕ) (z : ℤ) → slice_get zs i ≡ Some z → StandsAt ws (k + i) kind z

-- A limit stands at place k: its coefficients, its constant, its slopes.
pub record LimitStands (ws : List ℕ) (k : ℕ) (l : Limit) : Type 0 where
  pub coefficients : AllStand ws k Coefficient l.coefficients
  pub constant : StandsAt ws (k + length l.coefficients) Constant l.constant
  pub slopes : AllStand ws (k + (length l.coefficients + 1)) Slope l.slopes

-- The number that a head says.
abbrev pub head_number : Shape → ℕ
head_number c = c.limits + 256 * c.commands + 65536 * c.readings

-- The words describe the plant: a head with its counts, its gains, its limits in order, and a close that counts the words before it.
pub record Describes (ws : List ℕ) (p : Meaning) : Type 0 where
  pub bounded : Bounded p
  pub long : length ws ≡ close_place (shape_of p) + 1
  pub head : StandsAt ws 0 Head (pos (head_number (shape_of p)))
  pub gains : AllStand ws 1 Gain p.gains
  pub limits : (j : ℕ) (l : Limit) → slice_get p.limits j ≡ Some l → LimitStands ws (limit_place (shape_of p) j) l
  pub close : StandsAt ws (close_place (shape_of p)) Close (pos (close_place (shape_of p)))

-- A list of words describes at most one plant.
abbrev pub OnePlant : Type 0
OnePlant = (ws : List ℕ) (p q : Meaning) → Describes ws p → Describes ws q → p ≡ q

-- Every plant in bounds has words of 32 bits that describe it.
abbrev pub EveryPlant : Type 0
EveryPlant = (p : Meaning) → Bounded p → (ws : List ℕ) × Describes ws p × ((k : ℕ) → k < length ws → slice_index ws k < 2 ^ 32)
