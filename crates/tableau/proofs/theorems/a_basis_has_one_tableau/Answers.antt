use Rattle.tableau.proofs.Tableaus.{tableau_there, tableau_basis, one_tableau, least_denominator, smallest_tableau}
use Rattle.tableau.proofs.Ascending.{tableau_ascending, corner_ascending, one_ascending}
use Rattle.tableau.proofs.theorems.a_basis_has_one_tableau.Goals as goal

pub returns : goal.returns
returns c = record { there = tableau_there; back = tableau_basis; one = one_tableau; least = least_denominator; smallest = smallest_tableau; ascending = tableau_ascending; corners = corner_ascending; once = one_ascending }
