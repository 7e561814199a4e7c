use Rattle.std.proofs.Common.{◌≡◌, length}
use Rattle.trays.specs.Trays.{tray_size}
use Rattle.trays.proofs.Weighed.{WeighedBy}
use Rattle.trays.proofs.weights.weights.Given as goal

-- The weights of the rows so far stand at their limits, and elsewhere zeros.
abbrev pub invariant-loop-row : goal.invariant-loop-row
invariant-loop-row l = WeighedBy l.tableau.counts.shape l.tableau.words.now l.limit l.row l.numbers × (length l.numbers ≡ tray_size)
