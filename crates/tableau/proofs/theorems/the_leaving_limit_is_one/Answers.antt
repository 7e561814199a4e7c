use Rattle.tableau.proofs.Exchanges.{one_leaves, some_leaves, tied_leaves, willing_outside}
use Rattle.tableau.proofs.theorems.the_leaving_limit_is_one.Goals as goal

pub returns : goal.returns
returns c = record { one = one_leaves; some = some_leaves; tied = tied_leaves; outside = willing_outside }
