use Rattle.std.proofs.Common.{refl}
use Rattle.tableau_words.proofs.Worked.{one_and_three}
use Rattle.tableau_words.proofs.Checked.{greatest_size, checked}
use Rattle.tableau_words.proofs.tests.one_and_three_at.Goals as goal

pub invariant_of-result-2-clause-wide : goal.invariant_of-result-2-clause-wide
unfolding greatest_size
invariant_of-result-2-clause-wide c = checked one_and_three refl
