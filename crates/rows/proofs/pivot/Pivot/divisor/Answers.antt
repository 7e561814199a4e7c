use Rattle.std.proofs.Common.{◌≡◌, ℕ, suc, ◌+◌, ◌*◌, ◌/◌, ◌%◌, ◌<◌, ◌≤◌, length, take, ℤ, ◌*ℤ◌, ◌∙◌, arith, w64, SFits, rules}
use native.Mathlib.Nat.{sub-zero}
use Rattle.std.proofs.lemmas.Int.{to_z-of_z}
use Rattle.std.proofs.lemmas.Nat.{mul-le}
use Rattle.std.proofs.lemmas.List.{get_or-take, length-take-le}
use Rattle.exact.specs.Vectors.{entries, first_then}
use Rattle.exact.specs.Divisors.{Gcd}
use Rattle.exact.proofs.Ring.{mul_pos}
use Rattle.rows.specs.Cells.{cell}
use Rattle.rows.specs.Pivots.{most_rows, numerator_of}
use Rattle.rows.proofs.Pivots.{gcd_cong, first_then_cong}
use Rattle.rows.proofs.pivot.Pivot.divisor.Goals as goal

pub slice_bounds-divisor-end : goal.slice_bounds-divisor-end
slice_bounds-divisor-end c = omega (arith, mul-le c.args.self.rows c.args.self.rows most_rows most_rows c.args.self.few c.args.self.few)

pub divisor-requires : goal.divisor-requires
divisor-requires c =
    let t = cell c.args.self.width c.args.words.now c.args.self.row c.args.self.column in
    let h1 : SFits w64 c.args.self.denominator = search rules in
    let h2 : SFits w64 t = search rules in
    let h3 : SFits w64 c.product-first.result = search rules in
    let e : c.product-first.result ≡ c.args.self.denominator *ℤ t = simp to_z-of_z at c.product-first.ensures in
    simp to_z-of_z (rw e (mul_pos c.args.self.denominator t c.args.self.positive c.requires.positive))

pub returns : goal.returns
returns c =
    let m = c.args.self.rows in
    let xs = c.numerators-numbers.result in
    let t = cell c.args.self.width c.args.words.now c.args.self.row c.args.self.column in
    let h1 : SFits w64 c.args.self.denominator = search rules in
    let h2 : SFits w64 t = search rules in
    let h3 : SFits w64 c.product-first.result = search rules in
    let e : c.product-first.result ≡ c.args.self.denominator *ℤ t = simp to_z-of_z at c.product-first.ensures in
    let h4 : SFits w64 c.divisor.result = search rules in
    let F : ℕ → ℤ = λ k. numerator_of c.args.self.denominator c.args.self.width c.args.self.row c.args.self.column c.args.words.now (k / m) (c.args.self.first_column + k % m) in
    let s : m * m ≤ length xs = omega (arith, mul-le m m most_rows most_rows c.args.self.few c.args.self.few) in
    let l = length-take-le (m * m) xs s in
    let G : Gcd (suc (m * m)) (first_then (c.args.self.denominator *ℤ t) (entries (take (m * m) xs))) c.divisor.result = simp (sub-zero, l, e) at (simp to_z-of_z at c.divisor.ensures.greatest) in
    let same : (k : ℕ) → k < m * m → entries (take (m * m) xs) k ≡ F k = λ k h. get_or-take (m * m) xs k _ h ∙ c.numerators-numbers.ensures k h in
    simp to_z-of_z (record {
      greatest = gcd_cong (suc (m * m)) _ _ c.divisor.result (first_then_cong (m * m) (c.args.self.denominator *ℤ t) (entries (take (m * m) xs)) F same) G;
      positive = c.divisor.ensures.positive;
    })
