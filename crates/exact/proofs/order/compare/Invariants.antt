use Rattle.std.proofs.Common.{◌≡◌, ℕ, ◌<◌, length, ◌*ℤ◌}
use Rattle.exact.specs.Vectors.{entries}
use Rattle.exact.proofs.order.compare.Given as goal

-- All numbers so far are equal, multiplied out.
abbrev pub invariant-loop-x : goal.invariant-loop-x
invariant-loop-x l = (k : ℕ) → k < length l.yielded → l.t *ℤ entries l.xs k ≡ l.s *ℤ entries l.ys k
