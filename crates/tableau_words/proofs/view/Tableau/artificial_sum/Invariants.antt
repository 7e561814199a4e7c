use Rattle.std.proofs.Common.{◌≡◌, ◌*◌, ◌≤◌, nat_abs}
use Rattle.exact.specs.Bounds.{width}
use Rattle.exact.specs.Vectors.{sum}
use Rattle.tableau_words.specs.Artificial.{number_if_artificial}
use Rattle.tableau_words.proofs.view.Tableau.artificial_sum.Given as goal

-- The sum over the rows so far, and each adds at most the width.
abbrev pub invariant-loop-row : goal.invariant-loop-row
invariant-loop-row l = (l.sum ≡ sum l.row (number_if_artificial l.self.counts.shape l.self.words.now l.column)) × (nat_abs l.sum ≤ l.row * width)
