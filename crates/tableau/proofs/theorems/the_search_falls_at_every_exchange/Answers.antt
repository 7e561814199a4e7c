use Rattle.tableau.proofs.Searches.{first_corner, search_row, search_met, search_numbers, direction_falls, search_no_twice, search_short}
use Rattle.tableau.proofs.theorems.the_search_falls_at_every_exchange.Goals as goal

pub returns : goal.returns
returns c = record { first = first_corner; row = search_row; met = search_met; numbers = search_numbers; falls = direction_falls; twice = search_no_twice; short = search_short }
