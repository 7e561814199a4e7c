use Rattle.std.proofs.Common.{◌≡◌, ap, ◌∙◌, arith, length-set, w64, SFits, rules}
use Rattle.std.proofs.lemmas.Int.{ints, to_z-of_z}
use Rattle.exact.specs.Vectors.{entries}
use Rattle.words.specs.declared.counts.Shape.{Shape}
use Rattle.trays.proofs.Weighed.{row_known, weighed_row, weights_answered}
use Rattle.trays.proofs.weights.weights.Goals as goal

pub row_limit-requires-clause-limit : goal.row_limit-requires-clause-limit
row_limit-requires-clause-limit c =
    let few : c.shape-row-end.result.commands ≡ c.args.tableau.counts.shape.commands = ap (λ (s : Shape). s.commands) c.shape-row-end.ensures in
    let (l, inside, named) = c.requires.known c.loop-row.row (omega arith) in
    omega (arith, ints, named)

pub bounds-numbers-row_limit : goal.bounds-numbers-row_limit
bounds-numbers-row_limit c =
    let t = c.args.tableau in
    let few : c.shape-row-end.result.commands ≡ t.counts.shape.commands = ap (λ (s : Shape). s.commands) c.shape-row-end.ensures in
    omega (arith, row_known t.counts.shape t.words.now c.loop-row.row c.row_limit.result c.requires.known (omega arith) c.row_limit.ensures, t.counts.fit.3)

pub loop-row-preserved : goal.loop-row-preserved
loop-row-preserved c =
    let t = c.args.tableau in
    let xs = c.loop-row.numbers in
    let l = c.row_limit.result in
    let z = c.row_weight.result in
    let fits : SFits w64 z = search rules in
    let few : c.shape-row-end.result.commands ≡ t.counts.shape.commands = ap (λ (s : Shape). s.commands) c.shape-row-end.ensures in
    let known = row_known t.counts.shape t.words.now c.loop-row.row l c.requires.known (omega arith) c.row_limit.ensures in
    simp to_z-of_z (
      weighed_row t.counts.shape t.words.now c.args.limit c.loop-row.row xs l z (omega arith) c.row_limit.ensures c.row_weight.ensures (omega (arith, c.loop-row.invariant.1, known, t.counts.fit.3)) c.loop-row.invariant.0,
      length-set xs l z ∙ c.loop-row.invariant.1,
    )

pub returns : goal.returns
returns c =
    let t = c.args.tableau in
    let ws = t.words.now in
    let few : c.shape-row-end.result.commands ≡ t.counts.shape.commands = ap (λ (s : Shape). s.commands) c.shape-row-end.ensures in
    let n : c.loop-row.row ≡ t.counts.shape.commands = omega arith in
    let fits : SFits w64 (entries ws 0) = search rules in
    simp to_z-of_z (weights_answered t.counts.shape ws c.args.limit c.loop-row.numbers c.requires.limit (omega (arith, t.counts.fit.3)) c.loop-row.invariant.1 (rw n at c.loop-row.invariant.0))
