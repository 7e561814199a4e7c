use Rattle.std.proofs.Common.{◌≡◌, ℕ, zero, suc, ◌+◌, ◌<◌, pos, refl, arith}
use Rattle.exact.specs.Vectors.{entries}
use Rattle.tableau_words.proofs.Worked.{one_and_three}
use Rattle.tableau_words.proofs.Checked.{greatest_size, checked}
use Rattle.trays.proofs.tests.weights_of_limit_2.Goals as goal

pub invariant_of-tableau-clause-wide : goal.invariant_of-tableau-clause-wide
unfolding greatest_size
invariant_of-tableau-clause-wide g c = checked one_and_three refl

known : (r : ℕ) → r < 2 → (l : ℕ) × (l < 5) × (entries one_and_three (1 + r) ≡ pos l)
known zero h = (0, omega arith, refl)
known (suc zero) h = (2, omega arith, refl)
known (suc (suc r)) h = absurd (omega arith)

pub weights-requires-clause-known : goal.weights-requires-clause-known
weights-requires-clause-known g c = rw c.in_ok-counts.ensures known
