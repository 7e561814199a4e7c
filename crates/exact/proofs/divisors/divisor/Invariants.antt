use Rattle.std.proofs.Common.{suc, pos}
use Rattle.exact.specs.Vectors.{entries, first_then}
use Rattle.exact.specs.Divisors.{Gcd}
use Rattle.exact.proofs.divisors.divisor.Given as goal

-- `common` is the greatest common divisor so far.
abbrev pub invariant-loop-number : goal.invariant-loop-number
invariant-loop-number l = Gcd (suc l.number-index) (first_then l.first (entries l.numbers)) (pos l.common)
