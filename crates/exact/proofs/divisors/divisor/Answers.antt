use Rattle.std.proofs.Common.{◌≡◌, ℕ, suc, ◌^◌, ◌<◌, length, pos, nat_abs, ◌≤ℤ◌, ◌<ℤ◌, sym, ap, subst, add-one, arith, w64, SFits, rules}
use Rattle.std.proofs.lemmas.Int.{ints, to_z-of_z, to_z_pos}
use Rattle.exact.specs.Vectors.{entries, first_then}
use Rattle.exact.specs.Divisors.{Divides, Gcd, GcdOfTwo}
use Rattle.exact.proofs.Divides.{div_pos, div_le}
use Rattle.exact.proofs.Gcd.{gcd_alone, gcd_more, gcd_one, gcd_size, gcd_swap}
use Rattle.exact.proofs.divisors.divisor.Goals as goal

pub loop-number-init : goal.loop-number-init
loop-number-init c =
    let h = c.ranges.first in
    let f = first_then c.args.first (entries c.args.numbers.now) in
    let e : pos c.unsigned_abs-common.result ≡ c.args.first = omega (arith, ints) in
    simp to_z-of_z (subst (Gcd 1 f) (sym e) (gcd_alone f (omega (arith, ints))))

pub returns-then-common-eq1 : goal.returns-then-common-eq1
returns-then-common-eq1 c =
    let h = c.ranges.first in
    let f = first_then c.args.first (entries c.args.numbers.now) in
    let I : Gcd (suc c.loop-number.number-index) f (pos c.loop-number.common) = simp to_z-of_z at c.loop-number.invariant in
    let g : Gcd (suc c.loop-number.number-index) f (pos 1) = subst (Gcd (suc c.loop-number.number-index) f) (ap pos c.if-common-eq1.true) I in
    record { greatest = gcd_one (suc c.loop-number.number-index) (suc (length c.args.numbers.now)) f (omega arith) g; positive = omega (arith, ints) }

pub loop-number-preserved : goal.loop-number-preserved
loop-number-preserved c =
    let h = c.ranges.first in
    let f = first_then c.args.first (entries c.args.numbers.now) in
    let x = entries c.args.numbers.now c.loop-number.number-index in
    let r = pos c.euclid-common.result in
    let hx : SFits w64 x = search rules in
    let I : Gcd (suc c.loop-number.number-index) f (pos c.loop-number.common) = simp to_z-of_z at c.loop-number.invariant in
    let e : c.unsigned_abs.result ≡ nat_abs x = simp to_z-of_z at c.unsigned_abs.ensures.value in
    let g : GcdOfTwo (pos (nat_abs x)) (pos c.loop-number.common) r = subst (λ (n : ℕ). GcdOfTwo (pos n) (pos c.loop-number.common) r) e c.euclid-common.ensures in
    simp (to_z-of_z, add-one) (gcd_more (suc c.loop-number.number-index) f (pos c.loop-number.common) r I (gcd_size (pos c.loop-number.common) x r (gcd_swap (pos (nat_abs x)) (pos c.loop-number.common) r g)))

-- The divisor lies between 1 and the first number, which it divides.
between : (c : goal.After-loop-number) → (pos 0 <ℤ pos c.loop-number.common) × (pos c.loop-number.common ≤ℤ c.args.first)
between c =
    let h = c.ranges.first in
    let d : Divides (pos c.loop-number.common) c.args.first = simp to_z-of_z at (c.loop-number.invariant.divides 0 (omega arith)) in
    let p = div_pos (pos c.loop-number.common) c.args.first c.loop-number.invariant.nonneg c.requires d in
    (p, div_le (pos c.loop-number.common) c.args.first p c.requires d)

pub overflow_cast-result : goal.overflow_cast-result
overflow_cast-result c = let h = c.ranges.first in omega (arith, ints, (between c).1)

pub returns : goal.returns
returns c =
    let h = c.ranges.first in
    let b : c.loop-number.common < 2 ^ 63 = omega (arith, ints, (between c).1) in
    let e : length c.args.numbers.now ≡ c.loop-number.number-index = omega arith in
    rw (to_z_pos w64 c.loop-number.common b, e) (record { greatest = simp to_z-of_z at c.loop-number.invariant; positive = (between c).0 })
