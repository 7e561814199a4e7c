-- Vectors of whole numbers: functions of the place, from 0, that are looked at below a length.
use Rattle.std.specs.Prelude.{ℕ, zero, suc, List, ℤ, pos, ◌+ℤ◌, ◌*ℤ◌, slice_index_or}

-- The sum of the first n numbers.
unfoldable pub sum : ℕ → (ℕ → ℤ) → ℤ
sum zero f = pos 0
sum (suc n) f = sum n f +ℤ f n

-- The dot product: the sum of the products of the entries.
unfoldable pub dot : ℕ → (ℕ → ℤ) → (ℕ → ℤ) → ℤ
dot n x y = sum n (λ i. x i *ℤ y i)

-- The numbers of a list by their places.
abbrev pub entries : List ℤ → ℕ → ℤ
entries xs i = slice_index_or xs i (pos 0)

-- The vector x, f 0, f 1 and so on.
abbrev pub first_then : ℤ → (ℕ → ℤ) → ℕ → ℤ
first_then x f zero = x
first_then x f (suc i) = f i
