use Rattle.tableau.proofs.Solves.{one_unwilling}
use Rattle.tableau.proofs.theorems.a_reading_has_one_corner_without_willing_limits.Goals as goal

pub returns : goal.returns
returns c = one_unwilling
