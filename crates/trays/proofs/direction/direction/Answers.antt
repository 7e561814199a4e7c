use Rattle.std.proofs.Common.{◌≡◌, length, ap, ◌∙◌, arith, w64, SFits, rules}
use Rattle.std.proofs.lemmas.List.{length-take-le}
use Rattle.std.proofs.lemmas.Int.{to_z-of_z}
use Rattle.words.specs.declared.counts.Shape.{Shape}
use Rattle.trays.proofs.Directed.{directed_more, directed_all}
use Rattle.trays.proofs.direction.direction.Goals as goal

pub loop-i-preserved : goal.loop-i-preserved
loop-i-preserved c =
    let t = c.args.tableau in
    let z = c.artificial_sum.result in
    let few : c.shape-commands.result.commands ≡ t.counts.shape.commands = ap (λ (s : Shape). s.commands) c.shape-commands.ensures in
    let long : length c.loop-i.number-items ≡ t.counts.shape.commands = c.loop-i.auto.number-items ∙ length-take-le _ _ (omega arith) ∙ few in
    let fits : SFits w64 z = search rules in
    simp to_z-of_z (directed_more t.counts.shape t.words.now c.loop-i.i c.loop-i.number-items z (omega arith) (omega arith) c.artificial_sum.ensures c.loop-i.invariant)

pub returns : goal.returns
returns c =
    let t = c.args.tableau in
    let few : c.shape-commands.result.commands ≡ t.counts.shape.commands = ap (λ (s : Shape). s.commands) c.shape-commands.ensures in
    let long : length c.loop-i.number-items ≡ t.counts.shape.commands = c.loop-i.auto.number-items ∙ length-take-le _ _ (omega arith) ∙ few in
    let n : c.loop-i.i ≡ t.counts.shape.commands = omega arith in
    rw c.shape-commands.ensures (directed_all t.counts.shape t.words.now c.loop-i.number-items long (rw n at c.loop-i.invariant))
