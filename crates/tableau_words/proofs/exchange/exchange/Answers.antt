use Rattle.std.proofs.Common.{◌<◌, get_or, pos, arith, w64, SFits, rules}
use Rattle.std.proofs.lemmas.Result.{err_from_is_err_and}
use Rattle.std.proofs.lemmas.Int.{to_z-of_z, ints}
use Rattle.tableau_words.proofs.Answered.{accepted_with, refused_with}
use Rattle.tableau_words.proofs.exchange.exchange.Goals as goal

pub returns-in_err-next : goal.returns-in_err-next
returns-in_err-next c =
    let ws = c.args.words.now in
    let r = err_from_is_err_and c.from_residual.result c.from_residual.ensures.1 in
    let fits : SFits w64 (get_or ws 0 (pos 0)) = search rules in
    rw r.1 (refused_with c.args.counts.shape ws c.args.row c.args.limit _ c.requires.places.0 c.requires.places.1 c.requires.positive.1 (to_z-of_z w64 _ fits) (rw c.shape-commands.ensures at c.in_err-next.ensures))

pub returns : goal.returns
returns c =
    let ws = c.args.words.now in
    let fits : SFits w64 (get_or ws 0 (pos 0)) = search rules in
    let next : SFits w64 c.in_ok-next.next = search rules in
    let few : c.args.limit < 16 = omega (arith, c.requires.places.1, c.args.counts.fit.3) in
    rw c.shape-commands.ensures (accepted_with c.args.counts.shape ws c.exchange.new.words c.args.row c.args.limit _ c.in_ok-next.next _ _ c.requires.places.0 c.requires.places.1 c.requires.positive.1 (to_z-of_z w64 _ fits) (to_z-of_z w64 _ next) (omega (arith, ints)) (rw c.shape-commands.ensures at c.in_ok-next.ensures))
