use Rattle.std.proofs.Common.{◌∷◌, ◌++◌, get_or, take, pos, refl, ap, ◌∙◌, w64, SFits, rules}
use Rattle.std.proofs.Output.{has_written_of_eq, has_written_append, writes_in_calls_nil}
use Rattle.std.proofs.lemmas.List.{take_all}
use Rattle.std.proofs.lemmas.Int.{to_z-of_z}
use Rattle.std.specs.Fmt.{signed_decimal}
use Rattle.script.specs.Lines.{spaced}
use Rattle.script.proofs.Spacing.{spaced_more}
use Rattle.script.proofs.line.SpacedDisplay.fmt.Goals as goal

pub loop-k-init : goal.loop-k-init
loop-k-init g c = λ plain. record { wrote = writes_in_calls_nil _ _; plain = plain }

pub loop-k-preserved : goal.loop-k-preserved
loop-k-preserved g c = λ plain.
    let zs = c.args.self.now.numbers.now in
    let k = c.loop-k.k in
    let before = c.loop-k.invariant plain in
    let fits : SFits w64 (get_or zs k (pos 0)) = search rules in
    let same = ap (λ z. spaced (take k zs) ++ (32 ∷ signed_decimal z)) (to_z-of_z w64 (get_or zs k (pos 0)) fits) in
    has_written_of_eq _ _ _ _ _ (same ∙ spaced_more zs k c.loop-k-test.true) (has_written_append _ _ _ _ _ _ before (c.in_ok-write.ensures.writes before.plain refl))

pub returns-clause-writes : goal.returns-clause-writes
returns-clause-writes g c = λ plain ok.
    let zs = c.args.self.now.numbers.now in
    has_written_of_eq _ _ _ _ _ (ap spaced (take_all c.loop-k.k zs c.loop-k-test.false)) (c.loop-k.invariant plain)
