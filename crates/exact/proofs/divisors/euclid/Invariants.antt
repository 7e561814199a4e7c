use Rattle.std.proofs.Common.{ℤ, pos}
use Rattle.exact.specs.Divisors.{GcdOfTwo}
use Rattle.exact.proofs.divisors.euclid.Given as goal

-- The greatest common divisor of x and y is that of a and b.
abbrev pub invariant-loop-y : goal.invariant-loop-y
invariant-loop-y l = (g : ℤ) → GcdOfTwo (pos l.x) (pos l.y) g → GcdOfTwo (pos l.a) (pos l.b) g

abbrev pub decreases-loop-y : goal.decreases-loop-y
decreases-loop-y l = l.y
