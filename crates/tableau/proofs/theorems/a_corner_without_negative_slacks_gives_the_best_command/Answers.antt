use Rattle.tableau.proofs.Corners.{region_best, lowest_best}
use Rattle.tableau.proofs.theorems.a_corner_without_negative_slacks_gives_the_best_command.Goals as goal

pub returns : goal.returns
returns c = record { best = region_best; lowest = lowest_best }
