use Rattle.tableau.proofs.Solves.{finished_answers, no_region}
use Rattle.tableau.proofs.theorems.a_finished_list_answers_wherever_a_command_exists.Goals as goal

pub returns : goal.returns
returns c = record { answers = finished_answers; none = no_region }
