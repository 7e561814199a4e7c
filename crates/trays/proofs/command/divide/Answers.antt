use Rattle.std.proofs.Common.{◌≡◌, ◌++◌, map, get_or, take, drop, set, ℤ, pos, ap, ◌∙◌, arith, w64, SFits, rules}
use lib.Signed.{quot_z}
use Rattle.std.proofs.lemmas.List.Edits.{map_over_more}
use Rattle.std.proofs.lemmas.List.{get_or_default}
use Rattle.std.proofs.lemmas.Int.{to_z-of_z}
use Rattle.trays.proofs.command.divide.Goals as goal

pub loop-number-preserved : goal.loop-number-preserved
loop-number-preserved c =
    let quotient = λ (z : ℤ). quot_z z c.args.by in
    let xs = c.args.numbers.now in
    let ys = c.loop-number.numbers in
    let i = c.loop-number.number-index in
    let x = get_or ys i (pos 0) in
    let by_fits = c.ranges.by in
    let x_fits : SFits w64 x = search rules in
    let result_fits : SFits w64 c.divided.result = search rules in
    let e : c.divided.result ≡ quot_z x c.args.by = simp to_z-of_z at c.divided.ensures in
    let I : ys ≡ map quotient (take i xs) ++ drop i xs = simp to_z-of_z at c.loop-number.invariant in
    simp to_z-of_z (ap (set ys i) e ∙ map_over_more quotient xs ys i x (omega arith) I (get_or_default ys i (pos 0) x (omega arith)))
