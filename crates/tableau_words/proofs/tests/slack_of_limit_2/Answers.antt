use Rattle.std.proofs.Common.{[], ◌∷◌, negsuc, refl}
use Rattle.tableau_words.proofs.Checked.{greatest_size, checked}
use Rattle.tableau_words.proofs.tests.slack_of_limit_2.Goals as goal

pub one_and_three_at-requires-clause-wide : goal.one_and_three_at-requires-clause-wide
unfolding greatest_size
one_and_three_at-requires-clause-wide g c = checked (negsuc 1 ∷ []) refl
