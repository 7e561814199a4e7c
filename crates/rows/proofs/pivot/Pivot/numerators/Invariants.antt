use Rattle.std.proofs.Common.{◌≡◌, ◌+◌, ◌*◌, ◌/◌, ◌%◌, length}
use Rattle.rows.specs.Pivots.{most_rows, numerator_of}
use Rattle.rows.proofs.Progress.{Written}
use Rattle.rows.proofs.pivot.Pivot.numerators.Given as goal

-- The numerators so far are written.
abbrev pub invariant-loop-k : goal.invariant-loop-k
invariant-loop-k l =
    Written (λ j. numerator_of l.self.denominator l.self.width l.self.row l.self.column l.words (j / l.self.rows) (l.self.first_column + j % l.self.rows)) l.numbers l.k
    × (length l.numbers ≡ most_rows * most_rows)
