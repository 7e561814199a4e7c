use Rattle.tableau.proofs.Perturbed.{willing_large}
use Rattle.tableau.proofs.theorems.willing_limits_are_those_of_perturbed_sides.Goals as goal

pub returns : goal.returns
returns c = willing_large
