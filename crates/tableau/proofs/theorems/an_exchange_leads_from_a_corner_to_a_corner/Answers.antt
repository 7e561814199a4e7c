use Rattle.tableau.proofs.Exchanges.{leads, numbers_corner, one_across}
use Rattle.tableau.proofs.Lowest.{exchanged_lowest}
use Rattle.tableau.proofs.theorems.an_exchange_leads_from_a_corner_to_a_corner.Goals as goal

pub returns : goal.returns
returns c = record { there = leads; numbers = numbers_corner; lowest = exchanged_lowest; one = one_across }
