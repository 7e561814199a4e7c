use Rattle.std.proofs.Common.{[], ◌∷◌, pos, refl}
use Rattle.tableau_words.proofs.Checked.{greatest_size, checked}
use Rattle.tableau_words.proofs.tests.limit_5_is_willing_at_slack_0.Goals as goal

pub one_and_three_at-requires-clause-wide : goal.one_and_three_at-requires-clause-wide
unfolding greatest_size
one_and_three_at-requires-clause-wide g c = checked (pos 2 ∷ []) refl
