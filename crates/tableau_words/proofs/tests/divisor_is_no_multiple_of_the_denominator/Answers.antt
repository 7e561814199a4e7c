use Rattle.std.proofs.Common.{refl}
use Rattle.tableau_words.proofs.Worked.{halves}
use Rattle.tableau_words.proofs.Checked.{greatest_size, checked}
use Rattle.tableau_words.proofs.tests.divisor_is_no_multiple_of_the_denominator.Goals as goal

pub invariant_of-tableau-clause-wide : goal.invariant_of-tableau-clause-wide
unfolding greatest_size
invariant_of-tableau-clause-wide g c = checked halves refl

pub exchange-requires-clause-widths : goal.exchange-requires-clause-widths
unfolding greatest_size
exchange-requires-clause-widths g c = checked halves refl
