use Rattle.std.proofs.Common.{w64, SFits, rules}
use Rattle.std.proofs.lemmas.Int.{to_z-of_z}
use Rattle.corner_runs.proofs.Directions.{along_is}
use Rattle.corner_runs.proofs.stopping.along.Goals as goal

pub returns : goal.returns
returns c =
    let s = c.args.tableau.counts.shape in
    let fits : SFits w64 c.artificial_sum.result = search rules in
    simp to_z-of_z (along_is s c.args.limit c.args.tableau.words.now c.artificial_sum.result c.requires.place (rw c.shape.ensures at c.artificial_sum.ensures))
