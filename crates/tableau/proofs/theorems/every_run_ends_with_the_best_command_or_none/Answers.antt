use Rattle.tableau.proofs.Solves.{ended_or_on, run_ends, ends_answer}
use Rattle.tableau.proofs.theorems.every_run_ends_with_the_best_command_or_none.Goals as goal

pub returns : goal.returns
returns c = record { next = ended_or_on; ends = run_ends; answers = ends_answer }
