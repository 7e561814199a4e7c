use Rattle.std.proofs.Common.{◌≡◌, ◌*◌, subst, arith}
use Rattle.std.proofs.lemmas.Result.{err_from_is_err_and}
use Rattle.input.specs.Split.{RangeWords, RangeWordsFaulty, Payloads}
use Rattle.input.specs.Judged.{wrong_words}
use Rattle.input.proofs.Parts.{table_told, ranges_are, ranges_within, on_ok}
use Rattle.input.proofs.judge.ranges.Goals as goal

pub returns-in_err-numbers-clause-verdict : goal.returns-in_err-numbers-clause-verdict
returns-in_err-numbers-clause-verdict g c =
    let r = err_from_is_err_and c.from_residual.result c.from_residual.ensures.1 in
    λ follows.
    let here : c.min.result ≡ c.args.end = omega (arith, follows.0, c.min.ensures) in
    let F = subst (λ n. RangeWordsFaulty c.args.words.now n (2 * c.commands-commands.result) c.in_err-numbers.field-0.0) here c.in_err-numbers.ensures in
    let W = subst (λ m. RangeWordsFaulty c.args.words.now c.args.end (2 * m) c.in_err-numbers.field-0.0) c.commands-commands.ensures F in
    rw (r.1, r.2) (wrong_words follows W)

pub returns-clause-verdict : goal.returns-clause-verdict
returns-clause-verdict g c = λ follows.
    let N = c.in_ok-numbers.ensures in
    let ws = c.args.words.now in
    let m = c.commands-commands.result in
    let here : c.min.result ≡ c.args.end = omega (arith, follows.0, c.min.ensures) in
    let words = subst (λ n. RangeWords ws n (2 * m)) here N.0 in
    let numbers = subst (λ n. Payloads ws n (2 * m) c.in_ok-numbers.numbers) here N.1 in
    let R = ranges_are ws c.args.end m _ c.in_ok-numbers.numbers (g.met.P.Plant.bounded c.args.plant.now) follows c.commands-commands.ensures words numbers N.2 in
    table_told c.args.words.now c.args.end _ _ _ R c.range.result c.range.ensures

pub returns-clause-within : goal.returns-clause-within
returns-clause-within g c =
    let ws = c.args.words.now in
    let B = g.met.P.Plant.bounded c.args.plant.now in
    let W = subst (λ m. RangeWords ws c.min.result (2 * m)) c.commands-commands.ensures c.in_ok-numbers.ensures.0 in
    let long = ranges_within ws c.min.result _ B W in
    on_ok c.range.result (omega (arith, long, c.min.ensures, B.counted.0))
