use Rattle.std.proofs.Common.{◌≡◌, ◌+◌, ◌*◌, ◌≤◌, nat_abs}
use Rattle.exact.specs.Bounds.{width}
use Rattle.exact.specs.Vectors.{sum}
use Rattle.tableau_words.proofs.ReadingSums.{term}
use Rattle.tableau_words.proofs.reading.TableauAt.column_sum.Given as goal

-- The sum so far, and each term adds at most the square of the width.
abbrev pub invariant-loop-k : goal.invariant-loop-k
invariant-loop-k l = (l.sum ≡ sum (l.k + 1) (term l.self.reading.counts.shape l.self.reading.numbers.now l.self.words.now l.column)) × (nat_abs l.sum ≤ (l.k + 1) * (width * width))
