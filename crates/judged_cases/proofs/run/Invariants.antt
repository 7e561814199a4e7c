use Rattle.std.proofs.Common.{length}
use Rattle.judged_cases.proofs.run.Given as goal

abbrev pub decreases-loop-count : goal.decreases-loop-count
decreases-loop-count l = length l.rest
