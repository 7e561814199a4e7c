use Rattle.std.proofs.Common.{w64, SFits, rules}
use Rattle.std.proofs.lemmas.Int.{to_z-of_z}
use Rattle.tableau_words.proofs.ReadingSums.{answered}
use Rattle.tableau_words.proofs.reading.TableauAt.slack.Goals as goal

pub returns : goal.returns
returns c =
    let at = c.args.self.now in
    let fits : SFits w64 c.column_sum.result = search rules in
    simp to_z-of_z (answered at.reading.counts.shape at.reading.numbers.now c.args.limit at.words.now c.column_sum.result c.requires (rw c.shape.ensures at c.column_sum.ensures.value))
