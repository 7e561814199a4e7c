use Rattle.std.proofs.Common.{◌≡◌}
use Rattle.corner_words.proofs.Masks.{mask_to}
use Rattle.corner_words.proofs.read.mask.Given as goal

-- The mask of the rows so far.
abbrev pub invariant-loop-row : goal.invariant-loop-row
invariant-loop-row l = l.bits ≡ mask_to l.tableau.counts.shape l.tableau.words.now l.row
