use Rattle.tableau.proofs.Corners.{no_better}
use Rattle.tableau.proofs.theorems.where_a_corner_exists_no_free_direction_is_better.Goals as goal

pub returns : goal.returns
returns c = no_better
