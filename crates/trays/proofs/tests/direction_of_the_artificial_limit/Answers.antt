use Rattle.std.proofs.Common.{refl}
use Rattle.tableau_words.proofs.Worked.{primes}
use Rattle.tableau_words.proofs.Checked.{greatest_size, checked}
use Rattle.trays.proofs.tests.direction_of_the_artificial_limit.Goals as goal

pub invariant_of-tableau-clause-wide : goal.invariant_of-tableau-clause-wide
unfolding greatest_size
invariant_of-tableau-clause-wide g c = checked primes refl
