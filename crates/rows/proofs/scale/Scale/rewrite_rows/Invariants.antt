use Rattle.std.proofs.Common.{length}
use Rattle.rows.specs.Rewrites.{RowsRewritten}
use Rattle.rows.proofs.scale.Scale.rewrite_rows.Given as goal

-- The rows so far are rewritten, and the others are as they were.
abbrev pub invariant-loop-r : goal.invariant-loop-r
invariant-loop-r l = RowsRewritten l.self.by l.self.divisor l.column l.pivot_row (length l.pivot) l.r l.pivot l.initial.words l.words
