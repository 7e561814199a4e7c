use Rattle.tableau.proofs.Solves.{stay_listed}
use Rattle.tableau.proofs.theorems.no_run_leaves_a_finished_list.Goals as goal

pub returns : goal.returns
returns c = stay_listed
