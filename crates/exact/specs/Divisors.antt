-- Divisors of whole numbers.
use Rattle.std.specs.Prelude.{◌≡◌, ℕ, ◌<◌, ℤ, pos, ◌*ℤ◌, ◌≤ℤ◌}

-- x is a whole multiple of d.
abbrev pub Divides : ℤ → ℤ → Type 0
Divides d x = (q : ℤ) × (x ≡ d *ℤ q)

-- g is the greatest common divisor of the first n numbers: every common divisor divides it.
pub record Gcd (n : ℕ) (f : ℕ → ℤ) (g : ℤ) : Type 0 where
  pub nonneg : pos 0 ≤ℤ g
  pub divides : (i : ℕ) → i < n → Divides g (f i)
  pub greatest : (d : ℤ) → ((i : ℕ) → i < n → Divides d (f i)) → Divides d g

-- g is the greatest common divisor of x and y.
pub record GcdOfTwo (x y g : ℤ) : Type 0 where
  pub nonneg : pos 0 ≤ℤ g
  pub left : Divides g x
  pub right : Divides g y
  pub greatest : (d : ℤ) → Divides d x → Divides d y → Divides d g
