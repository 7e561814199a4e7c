-- Greatest common divisors.
use Rattle.std.proofs.Common.{◌≡◌, ℕ, zero, suc, ◌/◌, ◌%◌, ◌<◌, ◌≤◌, cond, ltb, ℤ, pos, negsuc, ◌+ℤ◌, ◌-ℤ◌, ◌*ℤ◌, neg_ℤ, nat_abs, ◌≤ℤ◌, sym, refl, ap, ◌∙◌, subst, ap₂, arith, le-ltb, lt-ltb}
use native.Mathlib.Nat as NatL
use native.Mathlib.Decide.{ℕ_discrete}
use lib.IntN.{zero-*ℤ, *ℤ-zero, *ℤ_comm}
use Rattle.exact.specs.Vectors.{sum}
use Rattle.exact.specs.Divisors.{Divides, Gcd, GcdOfTwo}
use Rattle.exact.proofs.Ring.{lin, one-*, expand, *-assoc, neg-*ʳ, neg-*ˡ}
use Rattle.exact.proofs.Sums.{sum_cong, sum-*ˡ}
use Rattle.exact.proofs.Divides.{div_self, div_trans, div_mul, div_mulʳ, div-+, div_neg}

pub gcd_none : (f : ℕ → ℤ) → Gcd 0 f (pos 0)
gcd_none f = record { nonneg = omega (arith, lin); divides = λ i l. absurd (omega arith); greatest = λ d h. (pos 0, sym (*ℤ-zero d)) }

-- One number more.
pub gcd_more : (w : ℕ) (f : ℕ → ℤ) (g g' : ℤ) → Gcd w f g → GcdOfTwo g (f w) g' → Gcd (suc w) f g'
gcd_more w f g g' h k = record {
  nonneg = k.nonneg;
  divides = λ i l. elim (ℕ_discrete i w) [ yes e ↦ rw e k.right | no d ↦ div_trans g' g (f i) k.left (h.divides i (omega arith)) ];
  greatest = λ d c. k.greatest d (h.greatest d (λ i l. c i (omega arith))) (c w (omega arith));
}

-- A number is its remainder and a multiple of the divisor.
split : (x y : ℕ) → pos x ≡ pos (x % y) +ℤ pos y *ℤ pos (x / y)
split x y = omega (arith, lin, NatL.mod-add-div x y)

pub gcd_zero : (x : ℕ) → GcdOfTwo (pos x) (pos 0) (pos x)
gcd_zero x = record { nonneg = omega (arith, lin); left = div_self (pos x); right = (pos 0, sym (*ℤ-zero (pos x))); greatest = λ d p q. p }

-- Euclid's step.
pub gcd_mod : (x y : ℕ) (g : ℤ) → GcdOfTwo (pos y) (pos (x % y)) g → GcdOfTwo (pos x) (pos y) g
gcd_mod x y g h = record {
  nonneg = h.nonneg;
  left = rw (split x y) (div-+ g (pos (x % y)) (pos y *ℤ pos (x / y)) h.right (div_mulʳ g (pos (x / y)) (pos y) h.left));
  right = h.left;
  greatest = λ d p q. h.greatest d q (subst (Divides d) (back x y) (div-+ d _ _ p (div_neg d _ (div_mul d (pos (x / y)) (pos y) q))));
}
  where
    back : (x y : ℕ) → pos x +ℤ neg_ℤ (pos (x / y) *ℤ pos y) ≡ pos (x % y)
    back x y = omega (arith, lin, split x y, *ℤ_comm (pos y) (pos (x / y)))

pub gcd_neg : (x y g : ℤ) → GcdOfTwo x y g → GcdOfTwo x (neg_ℤ y) g
gcd_neg x y g h = record { nonneg = h.nonneg; left = h.left; right = div_neg g y h.right; greatest = λ d p q. h.greatest d p (subst (Divides d) (omega (arith, lin)) (div_neg d (neg_ℤ y) q)) }

pub gcd_swap : (x y g : ℤ) → GcdOfTwo x y g → GcdOfTwo y x g
gcd_swap x y g h = record { nonneg = h.nonneg; left = h.right; right = h.left; greatest = λ d p q. h.greatest d q p }

-- A number and its size have the same divisors.
pub gcd_size : (x y g : ℤ) → GcdOfTwo x (pos (nat_abs y)) g → GcdOfTwo x y g
gcd_size x (pos n) g h = h
gcd_size x (negsuc n) g h = gcd_neg x (pos (suc n)) g h

pub gcd_alone : (f : ℕ → ℤ) → pos 0 ≤ℤ f 0 → Gcd 1 f (f 0)
gcd_alone f h = record { nonneg = h; divides = λ i l. let e : i ≡ 0 = omega arith in rw e (div_self (f 0)); greatest = λ d c. c 0 (omega arith) }

-- Once it is 1, further numbers change nothing.
pub gcd_one : (v w : ℕ) (f : ℕ → ℤ) → v ≤ w → Gcd v f (pos 1) → Gcd w f (pos 1)
gcd_one v w f l h = record { nonneg = h.nonneg; divides = λ i k. (f i, sym (one-* (f i))); greatest = λ d c. h.greatest d (λ i k. c i (omega arith)) }

-- The greatest common divisor of x and y as a sum u x + v y.
pub record BezoutOfTwo (x y : ℤ) : Type 0 where
  pub g : ℤ
  pub u : ℤ
  pub v : ℤ
  pub sums : u *ℤ x +ℤ v *ℤ y ≡ g
  pub is_gcd : GcdOfTwo x y g

euclid : (fuel x y : ℕ) → y < fuel → BezoutOfTwo (pos x) (pos y)
euclid zero x y l = absurd (omega arith)
euclid (suc k) x zero l = record { g = pos x; u = pos 1; v = pos 0; sums = omega (arith, lin, one-* (pos x), zero-*ℤ (pos 0)); is_gcd = gcd_zero x }
euclid (suc k) x (suc y) l = by (euclid k (suc y) (x % suc y) (omega (arith, NatL.mod-lt x {m = suc y} (omega arith))))
  where
    ring : (u v q y r x : ℤ) → x ≡ r +ℤ y *ℤ q → v *ℤ x +ℤ (u -ℤ v *ℤ q) *ℤ y ≡ u *ℤ y +ℤ v *ℤ r
    ring u v q y r x e = rw e (simp expand (omega (arith, lin)))

    by : BezoutOfTwo (pos (suc y)) (pos (x % suc y)) → BezoutOfTwo (pos x) (pos (suc y))
    by e = record {
      g = e.g;
      u = e.v;
      v = e.u -ℤ e.v *ℤ pos (x / suc y);
      sums = ring e.u e.v (pos (x / suc y)) (pos (suc y)) (pos (x % suc y)) (pos x) (split x (suc y)) ∙ e.sums;
      is_gcd = gcd_mod x (suc y) e.g e.is_gcd;
    }

bezout_of_two : (x y : ℤ) → pos 0 ≤ℤ x → BezoutOfTwo x y
bezout_of_two (negsuc x) y h = absurd (omega (arith, lin))
bezout_of_two (pos x) (pos y) h = euclid (suc y) x y (omega arith)
bezout_of_two (pos x) (negsuc y) h = by (euclid (suc (suc y)) x (suc y) (omega arith))
  where
    by : BezoutOfTwo (pos x) (pos (suc y)) → BezoutOfTwo (pos x) (negsuc y)
    by e = record { g = e.g; u = e.u; v = neg_ℤ e.v; sums = omega (arith, lin, e.sums, neg-*ʳ e.v (negsuc y), neg-*ˡ e.v (pos (suc y))); is_gcd = gcd_neg (pos x) (pos (suc y)) e.g e.is_gcd }

-- The greatest common divisor of a list as a sum of multiples of its numbers.
pub record Bezout (w : ℕ) (f : ℕ → ℤ) : Type 0 where
  pub g : ℤ
  pub k : ℕ → ℤ
  pub sums : sum w (λ i. k i *ℤ f i) ≡ g
  pub is_gcd : Gcd w f g

-- Each list has a greatest common divisor, and it is a sum of multiples of its numbers.
pub bezout : (w : ℕ) (f : ℕ → ℤ) → Bezout w f
unfolding sum
bezout zero f = record { g = pos 0; k = λ i. pos 0; sums = refl; is_gcd = gcd_none f }
bezout (suc w) f = by (bezout w f)
  where
    two : (e : Bezout w f) → BezoutOfTwo e.g (f w) → Bezout (suc w) f
    two e t = record {
      g = t.g;
      k = λ i. cond (ltb i w) (t.u *ℤ e.k i) t.v;
      sums = ap₂ ◌+ℤ◌
          (sum_cong w _ _ (λ i l. rw (lt-ltb i w l) (*-assoc t.u (e.k i) (f i))) ∙ sum-*ˡ w t.u (λ i. e.k i *ℤ f i) ∙ ap (λ z. t.u *ℤ z) e.sums)
          (rw (le-ltb w w (omega arith)))
          ∙ t.sums;
      is_gcd = gcd_more w f e.g t.g e.is_gcd t.is_gcd;
    }

    by : Bezout w f → Bezout (suc w) f
    by e = two e (bezout_of_two e.g (f w) e.is_gcd.nonneg)
