use Rattle.std.proofs.Common.{drop}
use Rattle.tableau_words.specs.Layout.{first_row, row_width}
use Rattle.tableau_words.proofs.LeastRatio.{SoFar}
use Rattle.tableau_words.proofs.view.Tableau.leaving.Given as goal

-- The least ratio of the rows so far.
abbrev pub invariant-loop-row : goal.invariant-loop-row
invariant-loop-row l =
    let s = l.self.counts.shape in
    SoFar (row_width s) (first_row s) l.column (drop (first_row s) l.self.words.now) l.row l.leaves
