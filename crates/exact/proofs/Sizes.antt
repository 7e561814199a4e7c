-- The sizes of sums, products and quotients.
use Rattle.std.proofs.Common.{◌≡◌, ℕ, zero, suc, ◌+◌, ◌*◌, ◌/◌, ◌^◌, ◌<◌, ◌≤◌, List, [], ◌∷◌, take, drop, set, ℤ, pos, negsuc, ◌+ℤ◌, ◌-ℤ◌, ◌*ℤ◌, neg_ℤ, nat_abs, refl, div-le_self, arith, w64, SFits}
use lib.Signed.{quot_z}
use Rattle.std.proofs.lemmas.Int.{ints}
use Rattle.std.proofs.lemmas.Nat.{mul-le}
use Rattle.exact.specs.Bounds.{width, InWidth, AllInWidth}

pub abs_neg : (z : ℤ) → nat_abs (neg_ℤ z) ≡ nat_abs z
abs_neg z = omega (arith, ints)

pub abs_add : (a b : ℤ) → nat_abs (a +ℤ b) ≤ nat_abs a + nat_abs b
abs_add a b = omega (arith, ints)

pub abs_mul : (a b : ℤ) → nat_abs (a *ℤ b) ≡ nat_abs a * nat_abs b
abs_mul (pos a) (pos b) = refl
abs_mul (pos a) (negsuc b) = abs_neg (pos (a * suc b))
abs_mul (negsuc a) (pos b) = abs_neg (pos (suc a * b))
abs_mul (negsuc a) (negsuc b) = refl

pub abs_quot : (a b : ℤ) → nat_abs (quot_z a b) ≤ nat_abs a
abs_quot (pos a) (pos b) = div-le_self a b
abs_quot (pos a) (negsuc b) = omega (arith, abs_neg (pos (a / suc b)), div-le_self a (suc b))
abs_quot (negsuc a) (pos b) = omega (arith, abs_neg (pos (suc a / b)), div-le_self (suc a) b)
abs_quot (negsuc a) (negsuc b) = div-le_self (suc a) (suc b)

pub product_small : (m n : ℕ) (a b : ℤ) → nat_abs a ≤ m → nat_abs b ≤ n → nat_abs (a *ℤ b) ≤ m * n
product_small m n a b p q = omega (arith, abs_mul a b, mul-le (nat_abs a) (nat_abs b) m n p q)

pub fits_64 : (z : ℤ) → nat_abs z < 2 ^ 63 → SFits w64 z
fits_64 z h = omega (arith, ints)

pub product_fits : (a b : ℤ) → InWidth a → InWidth b → SFits w64 (a *ℤ b)
product_fits a b p q = fits_64 (a *ℤ b) (omega (arith, product_small width width a b p q))

pub difference_small : (a b c d : ℤ) → InWidth a → InWidth b → InWidth c → InWidth d → nat_abs (a *ℤ b -ℤ c *ℤ d) < 2 ^ 56
difference_small a b c d p q r s =
    omega (arith, abs_add (a *ℤ b) (neg_ℤ (c *ℤ d)), abs_neg (c *ℤ d), product_small width width a b p q, product_small width width c d r s)

pub in_width_set : (xs : List ℤ) (i : ℕ) (v : ℤ) → AllInWidth xs → InWidth v → AllInWidth (set xs i v)
in_width_set [] i v h s k = h k
in_width_set (x ∷ xs) zero v h s zero = s
in_width_set (x ∷ xs) zero v h s (suc k) = h (suc k)
in_width_set (x ∷ xs) (suc i) v h s zero = h zero
in_width_set (x ∷ xs) (suc i) v h s (suc k) = in_width_set xs i v (λ n. h (suc n)) s k

pub in_width_drop : (n : ℕ) (xs : List ℤ) → AllInWidth xs → AllInWidth (drop n xs)
in_width_drop zero xs h = h
in_width_drop (suc n) [] h = h
in_width_drop (suc n) (x ∷ xs) h = in_width_drop n xs (λ k. h (suc k))

pub in_width_take : (n : ℕ) (xs : List ℤ) → AllInWidth xs → AllInWidth (take n xs)
in_width_take zero xs h k = omega arith
in_width_take (suc n) [] h k = h k
in_width_take (suc n) (x ∷ xs) h zero = h zero
in_width_take (suc n) (x ∷ xs) h (suc k) = in_width_take n xs (λ m. h (suc m)) k
