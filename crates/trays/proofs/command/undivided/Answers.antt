use Rattle.std.proofs.Common.{◌≡◌, ℕ, ◌+◌, length, set, neg_ℤ, ap, ◌∙◌, arith, w64, SFits, rules}
use Rattle.std.proofs.lemmas.List.{length-take-le}
use Rattle.std.proofs.lemmas.Int.{to_z-of_z}
use Rattle.exact.specs.Vectors.{entries}
use Rattle.tableau_words.specs.Readings.{column_at}
use Rattle.words.specs.declared.counts.Shape.{Shape}
use Rattle.trays.specs.Trays.{filled, first}
use Rattle.trays.proofs.Fills.{vector_filled, fraction_filled}
use Rattle.trays.proofs.command.undivided.Goals as goal

pub returns : goal.returns
returns c =
    let t = c.args.tableau in
    let ws = t.words.now in
    let m = t.reading.counts.shape.commands in
    let f = λ (k : ℕ). neg_ℤ (column_at t.reading.counts.shape t.reading.numbers.now ws (1 + k)) in
    let xs = c.loop-i.number-items in
    let few : c.shape-commands.result.commands ≡ m = ap (λ (s : Shape). s.commands) c.shape-commands.ensures in
    let long : length xs ≡ m = c.loop-i.auto.number-items ∙ length-take-le _ _ (omega arith) ∙ few in
    let n : c.loop-i.i ≡ m = omega arith in
    let first_fits : SFits w64 (entries ws 0) = search rules in
    let fits : SFits w64 c.law_at-2.result = search rules in
    simp (to_z-of_z, c.shape-commands.ensures) (ap (λ ys. set (set ys m (entries ws 0)) (m + 1) c.law_at-2.result) (vector_filled m f xs long (rw n at c.loop-i.invariant)) ∙ ap (set (set (filled (first m f)) m (entries ws 0)) (m + 1)) c.law_at-2.ensures ∙ fraction_filled m f (entries ws 0) _ (omega (arith, t.reading.counts.fit.1)))
