use Rattle.std.proofs.Common.{length, ◌≡◌, ◌*◌, ◌≤◌, nat_abs}
use Rattle.exact.specs.Bounds.{width}
use Rattle.exact.specs.Vectors.{dot, entries}
use Rattle.exact.proofs.vectors.dot.Given as goal

-- The sum is the dot product so far, and each product adds at most the square of the width.
abbrev pub invariant-loop-x : goal.invariant-loop-x
invariant-loop-x l = (l.sum ≡ dot (length l.yielded) (entries l.a) (entries l.b)) × (nat_abs l.sum ≤ (length l.yielded) * (width * width))
