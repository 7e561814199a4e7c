use Rattle.tableau.proofs.Exchanges.{rewrites}
use Rattle.tableau.proofs.theorems.an_exchange_rewrites_every_row.Goals as goal

pub returns : goal.returns
returns c = rewrites
