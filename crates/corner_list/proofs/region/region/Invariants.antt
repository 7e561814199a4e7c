use Rattle.std.proofs.Common.{ℕ, ◌<◌}
use Rattle.corner_list.specs.Records.{corner}
use Rattle.corner_list.specs.Regions.{OutOfRegion}
use Rattle.corner_list.proofs.Slacks.{ClearTo}
use Rattle.corner_list.proofs.region.region.Given as goal

-- No region so far holds the reading.
abbrev pub invariant-corners : goal.invariant-corners
invariant-corners l = (i : ℕ) → i < l.place → OutOfRegion l.reading.counts.shape l.reading.numbers.now (corner l.corners i)

-- No slack so far is negative.
abbrev pub invariant-loop-limit : goal.invariant-loop-limit
invariant-loop-limit l = ClearTo l.reading.counts.shape l.reading.numbers.now (corner l.corners l.place) l.limit
