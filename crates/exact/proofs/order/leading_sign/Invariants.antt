use Rattle.std.proofs.Common.{◌≡◌, ℕ, ◌<◌, pos}
use Rattle.exact.specs.Vectors.{entries}
use Rattle.exact.proofs.order.leading_sign.Given as goal

-- All numbers so far are 0.
abbrev pub invariant-loop-x : goal.invariant-loop-x
invariant-loop-x l = (k : ℕ) → k < l.x-index → entries l.xs k ≡ pos 0
