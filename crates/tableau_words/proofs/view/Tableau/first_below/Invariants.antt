use Rattle.std.proofs.Common.{drop}
use Rattle.tableau_words.specs.Layout.{first_row, row_width}
use Rattle.tableau_words.proofs.FirstBelow.{SoFar}
use Rattle.tableau_words.proofs.view.Tableau.first_below.Given as goal

-- The least limit of the rows so far that counts.
abbrev pub invariant-loop-row : goal.invariant-loop-row
invariant-loop-row l =
    let s = l.self.counts.shape in
    SoFar (row_width s) l.column l.limit l.self.words.now (drop (first_row s) l.self.words.now) l.row l.first
