use Rattle.trays.proofs.Directed.{Directed}
use Rattle.trays.proofs.direction.direction.Given as goal

-- The numbers of the direction so far.
abbrev pub invariant-loop-i : goal.invariant-loop-i
invariant-loop-i l = Directed l.tableau.counts.shape l.tableau.words.now l.i l.number-items
