use Rattle.tableau.proofs.Solves.{no_twice}
use Rattle.tableau.proofs.theorems.no_run_stands_at_a_basis_twice.Goals as goal

pub returns : goal.returns
returns c = no_twice
