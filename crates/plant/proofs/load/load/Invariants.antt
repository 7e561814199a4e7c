use Rattle.std.proofs.Common.{◌≡◌, ◌-◌, length}
use Rattle.plant.proofs.load.load.Given as goal

abbrev pub invariant-loop : goal.invariant-loop
invariant-loop l = l.reader.words.now ≡ l.words

abbrev pub decreases-loop : goal.decreases-loop
decreases-loop l = length l.words - l.reader.at
