use Rattle.words.proofs.Places.{Reached}
use Rattle.words.proofs.reader.Reader.read_part.Given as goal

abbrev pub invariant-loop-at : goal.invariant-loop-at
invariant-loop-at l = Reached l.self.words.now l.self.at l.self.state l.at l.state
