use Rattle.std.proofs.Common.{◌≡◌, ◌-◌}
use Rattle.tableau.specs.Choose.{choose}
use Rattle.bounded_list.specs.Contents.{contents, room}
use Rattle.corner_runs.proofs.Walks.{Walks}
use Rattle.corner_runs.proofs.run.run.Given as goal

-- The run so far, and the trail has the room that it had.
abbrev pub invariant-loop-limit : goal.invariant-loop-limit
invariant-loop-limit l =
    Walks l.reading.counts.shape l.reading.numbers.now l.initial.words l.exchanges (room l.initial.trail) (contents l.trail) l.words
    × (room l.trail ≡ room l.initial.trail)

abbrev pub decreases-loop-limit : goal.decreases-loop-limit
decreases-loop-limit l = choose l.reading.counts.shape.limits l.reading.counts.shape.commands - l.exchanges
