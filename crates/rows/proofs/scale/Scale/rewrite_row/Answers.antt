use Rattle.std.proofs.Common.{arith, w64, SFits, rules}
use Rattle.std.proofs.lemmas.Int.{to_z-of_z}
use Rattle.exact.specs.Vectors.{entries}
use Rattle.rows.specs.Rewrites.{rewritten}
use Rattle.rows.proofs.Progress.{step}
use Rattle.rows.proofs.scale.Scale.rewrite_row.Goals as goal

pub loop-j-preserved : goal.loop-j-preserved
loop-j-preserved c =
    let h3 : SFits w64 (entries c.args.row.now c.args.column) = search rules in
    let h4 : SFits w64 (entries c.loop-j.row c.loop-j.j) = search rules in
    let h5 : SFits w64 (entries c.args.pivot.now c.loop-j.j) = search rules in
    let h6 : SFits w64 c.in_ok-x.field-0 = search rules in
    let same = c.loop-j.invariant.1 c.loop-j.j (omega arith) in
    let e = simp to_z-of_z at c.in_ok-x.ensures in
    let I = simp to_z-of_z at c.loop-j.invariant in
    simp to_z-of_z (step (λ k. rewritten c.args.self.by c.args.self.divisor (entries c.args.row.now c.args.column) (entries c.args.row.now k) (entries c.args.pivot.now k)) c.args.row.now c.loop-j.row c.loop-j.j c.in_ok-x.field-0 (omega arith) I (rw (← same) e.0) e.1)
