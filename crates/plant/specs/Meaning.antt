-- What a plant means: its counts and its numbers.
use Rattle.std.specs.Prelude.{◌≡◌, ℕ, List, [], length, ℤ, pos, Some, Option}
use Rattle.std.specs.List.{slice_get}
use Rattle.words.specs.Bounds.{Counted, Value}
use Rattle.words.specs.declared.counts.Shape.{Shape}
use Rattle.plant.specs.Tables.{at_place, within}

-- One limit: a coefficient for each command, a constant, and a slope for each reading.
pub record Limit : Type 0 where
  pub coefficients : List ℤ
  pub constant : ℤ
  pub slopes : List ℤ

-- The limit without numbers, for places where there is none.
abbrev pub no_limit : Limit
no_limit = record { coefficients = []; constant = pos 0; slopes = [] }

-- A plant has a command for each gain.
pub record Meaning : Type 0 where
  pub gains : List ℤ
  pub readings : ℕ
  pub limits : List Limit

-- Its counts.
abbrev pub shape_of : Meaning → Shape
shape_of p = record { commands = length p.gains; limits = length p.limits; readings = p.readings }

-- Its numbers: commands, limits and readings count from 1, and a number outside the counts is absent.
abbrev pub gain_of : Meaning → ℕ → Option ℤ
gain_of p i = at_place p.gains i

abbrev pub coefficient_of : Meaning → ℕ → ℕ → Option ℤ
coefficient_of p j i = within (at_place p.limits j) (λ l. at_place l.coefficients i)

abbrev pub constant_of : Meaning → ℕ → Option ℤ
constant_of p j = within (at_place p.limits j) (λ l. Some l.constant)

abbrev pub slope_of : Meaning → ℕ → ℕ → Option ℤ
slope_of p j k = within (at_place p.limits j) (λ l. at_place l.slopes k)

-- Each number of a list is a number of a plant.
pub record Values (xs : List ℤ) : Type 0 where
  pub each : (i : ℕ) (z : ℤ) → slice_get xs i ≡ Some z → Value z

-- A limit of a plant with these counts.
pub record Fits (c : Shape) (l : Limit) : Type 0 where
  pub wide : length l.coefficients ≡ c.commands
  pub deep : length l.slopes ≡ c.readings
  pub coefficients : Values l.coefficients
  pub constant : Value l.constant
  pub slopes : Values l.slopes

-- All counts and numbers are in bounds.
pub record Bounded (p : Meaning) : Type 0 where
  pub counted : Counted (length p.gains) (length p.limits) p.readings
  pub gains : Values p.gains
  pub limits : (j : ℕ) (l : Limit) → slice_get p.limits j ≡ Some l → Fits (shape_of p) l
