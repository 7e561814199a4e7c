use Rattle.std.proofs.Common.{refl}
use Rattle.tableau_words.proofs.Worked.{primes}
use Rattle.tableau_words.proofs.Checked.{greatest_size, checked}
use Rattle.tableau_words.proofs.tests.primes_multiply.Goals as goal

pub exchange-requires-clause-widths : goal.exchange-requires-clause-widths
unfolding greatest_size
exchange-requires-clause-widths g c = checked primes refl
