use Rattle.std.proofs.Common.{refl}
use Rattle.tableau_words.proofs.Worked.{one_and_three}
use Rattle.tableau_words.proofs.Checked.{greatest_size, checked}
use Rattle.tableau_words.proofs.tests.no_row_for_limit_4.Goals as goal

pub invariant_of-tableau-clause-wide : goal.invariant_of-tableau-clause-wide
unfolding greatest_size
invariant_of-tableau-clause-wide g c = checked one_and_three refl
