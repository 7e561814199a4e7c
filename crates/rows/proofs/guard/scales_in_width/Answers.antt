use Rattle.std.proofs.Common.{◌≡◌, ℤ, pos, ◌<ℤ◌, sym, ap, ◌∙◌, w64, SFits, to_z, rules}
use Rattle.std.proofs.lemmas.Int.{to_z-of_z}
use Rattle.exact.specs.Vectors.{entries}
use Rattle.exact.proofs.Exact.{exact}
use Rattle.rows.specs.Rewrites.{scaled}
use Rattle.rows.proofs.guard.scales_in_width.Goals as goal

scaled_same : (n x : ℤ) → pos 0 <ℤ n → scaled n n x ≡ x
unfolding scaled
scaled_same n x h = exact n x h

pub returns-then-scale-clause-result : goal.returns-then-scale-clause-result
returns-then-scale-clause-result g c =
    let h1 : SFits w64 c.args.scale.by = search rules in let h2 : SFits w64 c.args.scale.divisor = search rules in
    let e : c.args.scale.by ≡ c.args.scale.divisor = sym (to_z-of_z w64 c.args.scale.by h1) ∙ ap (to_z w64) c.if-scale.true ∙ to_z-of_z w64 c.args.scale.divisor h2 in
    λ k h. rw (e, scaled_same c.args.scale.divisor (entries c.args.words.now k) c.args.scale.positive) (c.requires.widths k)
