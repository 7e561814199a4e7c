use Rattle.std.proofs.Common.{◌+◌, pos}
use Rattle.plant_table.specs.Places.{Holds}
use Rattle.first_tableau.proofs.fill.fill_limits.Given as goal

-- The limits so far are written.
abbrev pub invariant-loop-row : goal.invariant-loop-row
invariant-loop-row l = Holds l.row (λ r. pos (l.first + r)) l.limits
