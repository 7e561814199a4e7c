use Rattle.tableau.proofs.Perturbed.{corner_large, large_corner}
use Rattle.tableau.proofs.theorems.corners_are_those_of_perturbed_gains.Goals as goal

pub returns : goal.returns
returns c = record { there = corner_large; back = large_corner }
