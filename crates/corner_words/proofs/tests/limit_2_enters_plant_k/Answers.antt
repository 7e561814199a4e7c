use Rattle.corner_words.proofs.Worked.{holding}
use Rattle.corner_words.proofs.tests.limit_2_enters_plant_k.Goals as goal

pub enter-requires-clause-holding : goal.enter-requires-clause-holding
enter-requires-clause-holding g c = rw c.in_ok-counts.ensures holding
