use Rattle.std.proofs.Common.{◌+◌, ◌/◌, ◌%◌, ◌<◌, length, ◌∙◌, arith, length-set, w64, SFits, rules}
use Rattle.std.proofs.lemmas.Int.{to_z-of_z}
use Rattle.std.proofs.lemmas.Nat.{mul-le, div_below, mod_below}
use Rattle.rows.specs.Pivots.{most_rows, numerator_of}
use Rattle.rows.proofs.Progress.{write}
use Rattle.rows.proofs.pivot.Pivot.numerators.Goals as goal

pub numerator-requires : goal.numerator-requires
numerator-requires c =
    let m = c.args.self.rows in let k = c.loop-k.k in
    let z : 0 < m = omega arith in
    let s : k / m < m = div_below k m m z c.loop-k-test.true in
    let t : k % m < m = mod_below k m z in
    record { places = (s, omega arith); rows = c.requires.rows; widths = c.requires.widths }

pub bounds-numbers-k : goal.bounds-numbers-k
bounds-numbers-k c = omega (arith, mul-le c.args.self.rows c.args.self.rows most_rows most_rows c.args.self.few c.args.self.few)

pub loop-k-preserved : goal.loop-k-preserved
loop-k-preserved c =
    let k = c.loop-k.k in let m = c.args.self.rows in
    let h : SFits w64 c.numerator.result = search rules in
    let lt : k < length c.loop-k.numbers = omega (arith, mul-le m m most_rows most_rows c.args.self.few c.args.self.few) in
    let v = c.numerator.result in
    simp to_z-of_z (write (λ j. numerator_of c.args.self.denominator c.args.self.width c.args.self.row c.args.self.column c.args.words.now (j / m) (c.args.self.first_column + j % m)) c.loop-k.numbers k v lt c.loop-k.invariant.0 c.numerator.ensures, length-set c.loop-k.numbers k v ∙ c.loop-k.invariant.1)
