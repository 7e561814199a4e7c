-- Division without remainder.
use Rattle.std.proofs.Common.{◌≡◌, ℕ, zero, suc, ◌*◌, ◌/◌, ℤ, pos, negsuc, ◌*ℤ◌, neg_ℤ, ◌<ℤ◌, refl, ap, ◌∙◌, arith}
use native.Mathlib.Nat as NatL
use lib.Signed.{quot_z}
use Rattle.exact.specs.Divisors.{Divides}
use Rattle.exact.proofs.Ring.{lin}

quot_neg : (n b : ℕ) → quot_z (neg_ℤ (pos n)) (pos b) ≡ neg_ℤ (pos (n / b))
quot_neg zero b = rw (NatL.zero-div b)
quot_neg (suc n) b = refl

-- A division without remainder gives back the factor.
pub exact : (g q : ℤ) → pos 0 <ℤ g → quot_z (g *ℤ q) g ≡ q
exact (pos b) (pos c) h = ap pos (NatL.mul-div_right c (omega (arith, lin)))
exact (pos b) (negsuc c) h = quot_neg (b * suc c) b ∙ ap (λ (n : ℕ). neg_ℤ (pos n)) (NatL.mul-div_right (suc c) (omega (arith, lin)))
exact (negsuc b) q h = absurd (omega (arith, lin))

-- The quotient of a multiple, times the divisor, is the multiple.
pub exact_back : (g x : ℤ) → pos 0 <ℤ g → Divides g x → g *ℤ quot_z x g ≡ x
exact_back g x h (q, e) = rw (e, exact g q h)
