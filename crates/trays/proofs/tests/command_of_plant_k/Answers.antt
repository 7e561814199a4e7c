use Rattle.std.proofs.Common.{[], ◌∷◌, pos, refl}
use Rattle.tableau_words.proofs.Worked.{one_and_three}
use Rattle.tableau_words.proofs.Checked.{greatest_size, checked}
use Rattle.trays.proofs.tests.command_of_plant_k.Goals as goal

pub invariant_of-reading-clause-small : goal.invariant_of-reading-clause-small
unfolding greatest_size
invariant_of-reading-clause-small g c = checked (pos 0 ∷ []) refl

pub invariant_of-tableau-clause-wide : goal.invariant_of-tableau-clause-wide
unfolding greatest_size
invariant_of-tableau-clause-wide g c = checked one_and_three refl
