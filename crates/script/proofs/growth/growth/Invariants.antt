use Rattle.std.proofs.Common.{◌≡◌, ◌+◌, take, count_by}
use Rattle.script.specs.Growths.{lists}
use Rattle.script.proofs.Growing.{AllBefore}
use Rattle.script.proofs.growth.growth.Given as goal

abbrev pub invariant-loop-pairs : goal.invariant-loop-pairs
invariant-loop-pairs l = record { examined : AllBefore l.replies l.pairs; counted : l.corners ≡ 1 + count_by lists (take l.pairs l.replies) }
