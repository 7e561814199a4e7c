use Rattle.tableau.proofs.Solves.{short_run}
use Rattle.tableau.proofs.theorems.runs_are_shorter_than_the_choices_of_limits.Goals as goal

pub returns : goal.returns
returns c = short_run
