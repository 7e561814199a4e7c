-- A square matrix over one denominator, in lowest terms.
use Rattle.std.specs.Prelude.{◌≡◌, ℕ, ◌/◌, ◌%◌, ◌<◌, ℤ, pos, ◌<ℤ◌}
use Rattle.exact.specs.Vectors.{first_then}
use Rattle.exact.specs.Divisors.{Divides}

-- The denominator D, and then the entries of the m by m matrix U row by row.
abbrev pub every : ℕ → ℤ → (ℕ → ℕ → ℤ) → ℕ → ℤ
every m D U = first_then D (λ k. U (k / m) (k % m))

-- Nothing above 1 divides D and every entry of U.
abbrev pub Lowest : ℕ → ℤ → (ℕ → ℕ → ℤ) → Type 0
Lowest m D U = (d : ℤ) → pos 0 <ℤ d → Divides d D → ((r c : ℕ) → r < m → c < m → Divides d (U r c)) → d ≡ pos 1
