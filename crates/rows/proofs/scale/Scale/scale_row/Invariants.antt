use Rattle.exact.specs.Vectors.{entries}
use Rattle.rows.specs.Rewrites.{scaled}
use Rattle.rows.proofs.Progress.{Progress}
use Rattle.rows.proofs.scale.Scale.scale_row.Given as goal

-- The numbers so far are scaled.
abbrev pub invariant-loop-x : goal.invariant-loop-x
invariant-loop-x l = Progress (λ k. scaled l.self.by l.self.divisor (entries l.initial.row k)) l.initial.row l.row l.x-index
