use Rattle.std.proofs.Common.{refl}
use Rattle.tableau_words.proofs.Worked.{one_and_two}
use Rattle.tableau_words.proofs.Checked.{greatest_size, checked}
use Rattle.tableau_words.proofs.tests.limit_3_enters_again.Goals as goal

pub exchange-requires-clause-widths : goal.exchange-requires-clause-widths
unfolding greatest_size
exchange-requires-clause-widths g c = checked one_and_two refl
