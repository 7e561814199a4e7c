use Rattle.std.proofs.Common.{refl}
use Rattle.tableau_words.proofs.Worked.{one_and_two}
use Rattle.tableau_words.proofs.Checked.{greatest_size, checked}
use Rattle.tableau_words.proofs.tests.second_row_leaves_on_equal_first_ratios.Goals as goal

pub invariant_of-tableau-clause-wide : goal.invariant_of-tableau-clause-wide
unfolding greatest_size
invariant_of-tableau-clause-wide g c = checked one_and_two refl
