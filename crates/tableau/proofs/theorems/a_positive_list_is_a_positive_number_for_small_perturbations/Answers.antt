use Rattle.tableau.proofs.Perturbed.{positive_numbers}
use Rattle.tableau.proofs.theorems.a_positive_list_is_a_positive_number_for_small_perturbations.Goals as goal

pub returns : goal.returns
returns c = positive_numbers
