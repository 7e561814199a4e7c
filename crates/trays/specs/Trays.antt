-- The numbers of a tray.
use Rattle.std.specs.Prelude.{ℕ, ◌+◌, ◌-◌, List, [], ◌∷◌, ◌++◌, map, length, replicate, ℤ, pos}
use Rattle.std.specs.List.{range_with_len}
use Rattle.words.specs.Bounds.{most_limits}

-- A tray has a number for each limit, and two more.
abbrev pub tray_size : ℕ
tray_size = most_limits + 2

-- Numbers, and zeros after them to the end of the tray.
abbrev pub filled : List ℤ → List ℤ
filled xs = xs ++ replicate (tray_size - length xs) (pos 0)

-- The first m numbers of a vector.
abbrev pub first : ℕ → (ℕ → ℤ) → List ℤ
first m f = map f (range_with_len 0 m)

-- m numerators, their denominator, a gain over that denominator, and zeros.
abbrev pub fraction_list : ℕ → (ℕ → ℤ) → ℤ → ℤ → List ℤ
fraction_list m numerators denominator gain = filled (first m numerators ++ (denominator ∷ gain ∷ []))
