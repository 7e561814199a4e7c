use Rattle.tableau.proofs.Solves.{standing_rows, step_falls}
use Rattle.tableau.proofs.theorems.the_standing_falls_at_every_exchange.Goals as goal

pub returns : goal.returns
returns c = record { rows = standing_rows; falls = step_falls }
