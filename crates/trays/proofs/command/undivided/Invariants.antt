use Rattle.std.proofs.Common.{◌≡◌, ℕ, ◌+◌, ◌<◌, neg_ℤ}
use Rattle.exact.specs.Vectors.{entries}
use Rattle.tableau_words.specs.Readings.{column_at}
use Rattle.trays.proofs.command.undivided.Given as goal

-- The numerators so far.
abbrev pub invariant-loop-i : goal.invariant-loop-i
invariant-loop-i l =
    let t = l.tableau in
    (k : ℕ) → k < l.i → entries l.number-items k ≡ neg_ℤ (column_at t.reading.counts.shape t.reading.numbers.now t.words.now (1 + k))
