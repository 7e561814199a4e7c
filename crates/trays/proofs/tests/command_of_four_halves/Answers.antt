use Rattle.std.proofs.Common.{[], ◌∷◌, pos, negsuc, refl}
use Rattle.tableau_words.proofs.Checked.{greatest_size, checked}
use Rattle.trays.proofs.tests.command_of_four_halves.Goals as goal

pub invariant_of-tableau-clause-wide : goal.invariant_of-tableau-clause-wide
unfolding greatest_size
invariant_of-tableau-clause-wide g c = checked (pos 2 ∷ pos 0 ∷ pos 3 ∷ pos 1 ∷ pos 2 ∷ negsuc 11 ∷ negsuc 3 ∷ pos 0 ∷ []) refl
