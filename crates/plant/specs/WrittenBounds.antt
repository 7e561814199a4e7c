-- A written-out plant is in bounds, whatever its words.
use Rattle.std.specs.Prelude.{ℕ, ◌+◌, ◌≤◌, List, ℤ, pos, nat_le, slice_index, unsigned_abs}
use Rattle.std.proofs.Common.{⊎_elim, arith}
use Rattle.std.proofs.lemmas.Int.{ints}
use Rattle.std.proofs.lemmas.Bool.{leb-true, cases_Bool}
use Rattle.words.specs.Bounds.{Value, largest_value}
use Rattle.words.specs.Words.{payload}
use Rattle.words.specs.Layout.{InBounds, limit_place}
use Rattle.words.specs.declared.counts.Shape.{Shape}
use Rattle.plant.specs.Meaning.{Fits, Bounded}
use Rattle.plant.specs.Written.{in_bounds_or_zero, number_at, said_limit, said}
use Rattle.plant.specs.TableLaws.{length_table, each_of_table}
use Rattle.plant.specs.declared.written.Written.{Written}

pub written_kind : (1 ≤ 1) × (1 ≤ 32767)
written_kind = (omega arith, omega arith)

pub zero_is_value : Value (pos 0)
zero_is_value = (record { le = tt }, record { le = tt })

-- A size in bounds is a number in bounds.
pub small_is_value : (z : ℤ) → unsigned_abs z ≤ largest_value → Value z
small_is_value z h = (omega (arith, ints), omega (arith, ints))

pub in_bounds_is_value : (z : ℤ) → Value (in_bounds_or_zero z)
in_bounds_is_value z = ⊎_elim
    (λ e. rw e (small_is_value z (leb-true (unsigned_abs z) largest_value e)))
    (λ e. rw e zero_is_value)
    (cases_Bool (nat_le (unsigned_abs z) largest_value))

module _ (ws : List ℕ) (c : Shape) (b : InBounds c) where
  number_is_value : (k : ℕ) → Value (number_at ws k)
  number_is_value k = in_bounds_is_value (payload (slice_index ws k))

  said_limit_fits : (k : ℕ) → Fits c (said_limit ws c k)
  said_limit_fits k = record {
    wide = length_table c.commands _;
    deep = length_table c.readings _;
    coefficients = record { each = each_of_table Value c.commands _ (λ i h. number_is_value (k + i)) };
    constant = number_is_value (k + c.commands);
    slopes = record { each = each_of_table Value c.readings _ (λ i h. number_is_value (k + (c.commands + 1) + i)) };
  }

  pub said_bounded : Bounded (said ws c)
  said_bounded = record {
    counted = rw (length_table c.commands (λ i. number_at ws (1 + i)), length_table c.limits (λ j. said_limit ws c (limit_place c j))) b;
    gains = record { each = each_of_table Value c.commands _ (λ i h. number_is_value (1 + i)) };
    limits = rw (length_table c.commands (λ i. number_at ws (1 + i)), length_table c.limits (λ j. said_limit ws c (limit_place c j))) (each_of_table (Fits c) c.limits _ (λ j h. said_limit_fits (limit_place c j)));
  }

pub written_bounded : (w : Written) → Bounded (said w.words.now w.counts.shape)
written_bounded w = said_bounded w.words.now w.counts.shape w.counts.fit
