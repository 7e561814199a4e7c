use Rattle.std.proofs.Common.{◌≡◌, Err, sym, refl, ap, ◌∙◌, subst}
use Rattle.corner_runs.specs.declared.run.Unsettled.TheVariants.{NoRow}
use Rattle.corner_words.proofs.Holdings.{holding_long, holding_widths}
use Rattle.working_tableau.specs.Solves.{KeptCorner, HoldsUnless, Concluded}
use Rattle.working_tableau.proofs.Corners.{corner_holding, rows_known, own_limits}
use Rattle.working_tableau.proofs.solving.conclude.Goals as goal

pub invariant_of-at : goal.invariant_of-at
invariant_of-at c =
    let s = c.args.reading.counts.shape in
    let ws = c.args.words.now in
    let h = corner_holding s ws (subst (KeptCorner s ws) c.in-Ok.is c.requires.corner) in
    record { long = holding_long s ws h; wide = holding_widths s ws h c.args.reading.counts.fit }

pub mask-requires : goal.mask-requires
mask-requires c =
    let s = c.args.reading.counts.shape in
    let ws = c.args.words.now in
    let S = subst (KeptCorner s ws) c.in-Ok.is c.requires.corner in
    record { holding = rw (c.tableau.ensures.counts, c.tableau.ensures.words) (corner_holding s ws S); own = rw (c.tableau.ensures.counts, c.tableau.ensures.words) (own_limits s ws S) }

pub returns-in-Ok : goal.returns-in-Ok
returns-in-Ok c = λ p Y e H.
    let ws = c.args.words.now in
    let holds = subst (HoldsUnless p Y ws) c.in-Ok.is H in
    let (v, low, same) = c.command.ensures p Y e holds.held in
    subst (Concluded p c.args.reading.numbers.now Y c.args.tray.now c.lay.new.tray c.args.ran.exchanges _) (sym c.in-Ok.is)
    (record { mask = c.mask.result; exchanges = c.args.ran.exchanges }, refl, (rw (c.tableau.ensures.counts, c.tableau.ensures.words) at c.mask.ensures) p Y e holds, refl, (c.command.result, (v, low, same), c.lay.ensures))

pub invariant_of-weights : goal.invariant_of-weights
invariant_of-weights c =
    let s = c.args.reading.counts.shape in
    let ws = c.args.words.now in
    let limit : c.in-Err-NoRow.field-0 ≡ NoRow c.in-Err-NoRow.limit = rw c.in-Err-NoRow.is at c.in-Err-NoRow.field-0-is in
    let is : c.args.ran.end ≡ Err (NoRow c.in-Err-NoRow.limit) = c.in-Err-NoRow.is ∙ ap Err limit in
    let S = subst (KeptCorner s ws) is c.requires.corner in
    let h = corner_holding s ws S.0 in
    record { long = holding_long s ws h; wide = holding_widths s ws h c.args.reading.counts.fit }

pub weights-requires-clause-known : goal.weights-requires-clause-known
weights-requires-clause-known c =
    let s = c.args.reading.counts.shape in
    let ws = c.args.words.now in
    let limit : c.in-Err-NoRow.field-0 ≡ NoRow c.in-Err-NoRow.limit = rw c.in-Err-NoRow.is at c.in-Err-NoRow.field-0-is in
    let is : c.args.ran.end ≡ Err (NoRow c.in-Err-NoRow.limit) = c.in-Err-NoRow.is ∙ ap Err limit in
    let S = subst (KeptCorner s ws) is c.requires.corner in
    rows_known s ws S.0

pub returns-in-Err-NoRow : goal.returns-in-Err-NoRow
returns-in-Err-NoRow c = λ p Y e H.
    let ws = c.args.words.now in
    let limit : c.in-Err-NoRow.field-0 ≡ NoRow c.in-Err-NoRow.limit = rw c.in-Err-NoRow.is at c.in-Err-NoRow.field-0-is in
    let is : c.args.ran.end ≡ Err (NoRow c.in-Err-NoRow.limit) = c.in-Err-NoRow.is ∙ ap Err limit in
    let holds = subst (HoldsUnless p Y ws) is H in
    subst (Concluded p c.args.reading.numbers.now Y c.args.tray.now c.lay-in-Err-NoRow.new.tray c.args.ran.exchanges _) (sym is)
    (refl, λ out. (c.weights.result, c.weights.ensures p Y e holds.held out, c.lay-in-Err-NoRow.ensures))
