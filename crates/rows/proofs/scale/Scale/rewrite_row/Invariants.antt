use Rattle.exact.specs.Vectors.{entries}
use Rattle.rows.specs.Rewrites.{rewritten}
use Rattle.rows.proofs.Progress.{Progress}
use Rattle.rows.proofs.scale.Scale.rewrite_row.Given as goal

-- The numbers so far are rewritten.
abbrev pub invariant-loop-j : goal.invariant-loop-j
invariant-loop-j l = Progress (λ k. rewritten l.self.by l.self.divisor l.f (entries l.initial.row k) (entries l.pivot k)) l.initial.row l.row l.j
