use Rattle.tableau.proofs.Widths.{artificial_width}
use Rattle.tableau.proofs.theorems.artificial_limits_do_not_widen_a_tableau.Goals as goal

pub returns : goal.returns
returns c = artificial_width
