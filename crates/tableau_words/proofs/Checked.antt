-- Lists whose numbers are seen to be in width by computing.
use Rattle.std.proofs.Common.{◌≡◌, ℕ, zero, suc, ◌≤◌, max, true, leb, List, [], ◌∷◌, ℤ, nat_abs, arith}
use Rattle.std.proofs.lemmas.Bool.{leb-true}
use Rattle.exact.specs.Bounds.{width, AllInWidth}

-- The greatest size of a number of the list.
unfoldable pub greatest_size : List ℤ → ℕ
greatest_size [] = 0
greatest_size (x ∷ xs) = max (nat_abs x) (greatest_size xs)

bounded : (xs : List ℤ) → greatest_size xs ≤ width → AllInWidth xs
unfolding greatest_size
bounded [] h i = omega arith
bounded (x ∷ xs) h zero = omega arith
bounded (x ∷ xs) h (suc i) = bounded xs (omega arith) i

pub checked : (xs : List ℤ) → leb (greatest_size xs) width ≡ true → AllInWidth xs
checked xs e = bounded xs (leb-true (greatest_size xs) width e)
