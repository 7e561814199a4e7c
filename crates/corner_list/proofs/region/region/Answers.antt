use Rattle.std.proofs.Common.{◌≡◌, pos, ◌≤ℤ◌, ◌<ℤ◌, arith, w64, SFits, rules, ap, below_more}
use Rattle.std.proofs.lemmas.Int.{ints, to_z-of_z}
use Rattle.words.specs.declared.counts.Shape.{Shape}
use Rattle.corner_list.specs.Records.{corner}
use Rattle.corner_list.proofs.Slacks.{negative_out, clear_more}
use Rattle.corner_list.proofs.region.region.Goals as goal

pub corners-preserved : goal.corners-preserved
corners-preserved c =
    let reading = c.args.reading in
    let r = corner c.args.corners.now c.corners.place in
    let fits : SFits w64 c.slack.result = search rules in
    let test = simp to_z-of_z at c.if-slack-lt0.true in
    let all : c.shape-limits.result.limits ≡ reading.counts.shape.limits = ap (λ (s : Shape). s.limits) c.shape-limits.ensures in
    let below : c.slack.result <ℤ pos 0 = omega (arith, ints) in
    below_more _ _ c.corners.invariant (negative_out reading.counts.shape reading.numbers.now r c.tableau_size-size.result c.loop-limit.limit c.slack.result c.tableau_size-size.ensures.value c.slack.ensures (omega arith) below)

pub loop-limit-preserved : goal.loop-limit-preserved
loop-limit-preserved c =
    let reading = c.args.reading in
    let r = corner c.args.corners.now c.corners.place in
    let fits : SFits w64 c.slack.result = search rules in
    let test = simp to_z-of_z at c.if-slack-lt0.false in
    let above : pos 0 ≤ℤ c.slack.result = omega (arith, ints) in
    clear_more reading.counts.shape reading.numbers.now r c.tableau_size-size.result c.loop-limit.limit c.slack.result c.tableau_size-size.ensures.value c.slack.ensures above c.loop-limit.invariant
