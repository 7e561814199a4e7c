use Rattle.std.proofs.Common.{◌+◌, ◌-◌}
use Rattle.tableau.specs.Choose.{choose}
use Rattle.corner_runs.proofs.Searching.{Searching}
use Rattle.corner_runs.proofs.search.search.Given as goal

-- The search so far.
abbrev pub invariant-loop-limit : goal.invariant-loop-limit
invariant-loop-limit l = Searching l.counts.shape l.initial.words l.exchanges l.words

abbrev pub decreases-loop-limit : goal.decreases-loop-limit
decreases-loop-limit l = choose (l.counts.shape.limits + l.counts.shape.commands) l.counts.shape.commands - l.exchanges
