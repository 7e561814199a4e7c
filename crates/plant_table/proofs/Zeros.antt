-- Arrays of zeros.
use Rattle.std.proofs.Common.{◌≡◌, ℕ, zero, suc, replicate, pos, sym, refl, subst}
use Rattle.exact.specs.Vectors.{entries}
use Rattle.words.specs.Bounds.{Value}
use Rattle.plant.specs.WrittenBounds.{zero_is_value}
use Rattle.plant_table.specs.Places.{AllValues, AllRowsValues}

pub zeros : (n i : ℕ) → entries (replicate n (pos 0)) i ≡ pos 0
zeros zero i = refl
zeros (suc n) zero = refl
zeros (suc n) (suc i) = zeros n i

pub zeros_are_values : (n : ℕ) → AllValues (replicate n (pos 0))
zeros_are_values n i = subst Value (sym (zeros n i)) zero_is_value

pub zero_rows_are_values : (m n : ℕ) → AllRowsValues (replicate m (replicate n (pos 0)))
zero_rows_are_values zero n j i = zero_is_value
zero_rows_are_values (suc m) n zero i = zeros_are_values n i
zero_rows_are_values (suc m) n (suc j) i = zero_rows_are_values m n j i
