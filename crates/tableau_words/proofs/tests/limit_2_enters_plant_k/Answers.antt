use Rattle.std.proofs.Common.{refl}
use Rattle.tableau_words.proofs.Worked.{one_and_three}
use Rattle.tableau_words.proofs.Checked.{greatest_size, checked}
use Rattle.tableau_words.proofs.tests.limit_2_enters_plant_k.Goals as goal

pub invariant_of-tableau-clause-wide : goal.invariant_of-tableau-clause-wide
unfolding greatest_size
invariant_of-tableau-clause-wide g c = checked one_and_three refl

pub exchange-requires-clause-widths : goal.exchange-requires-clause-widths
unfolding greatest_size
exchange-requires-clause-widths g c = checked one_and_three refl
