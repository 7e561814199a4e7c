use Rattle.tableau.proofs.Searches.{search_on, search_ends, true_limits, better_direction, corner_or_direction}
use Rattle.tableau.proofs.theorems.the_search_ends_at_a_corner_or_a_better_direction.Goals as goal

pub returns : goal.returns
returns c = record { next = search_on; ends = search_ends; corner = true_limits; direction = better_direction; either = corner_or_direction }
