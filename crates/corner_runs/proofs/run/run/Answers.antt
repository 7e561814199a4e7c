use Rattle.std.proofs.Common.{◌+◌, ◌<◌, refl, ◌∙◌, arith}
use Rattle.bounded_list.specs.Contents.{contents, room}
use Rattle.corner_words.proofs.Holdings.{holding_long, holding_widths}
use Rattle.tableau.specs.Choose.{choose}
use Rattle.corner_runs.proofs.Bounds.{choose_few}
use Rattle.corner_runs.proofs.Walks.{Walks, at_first, left_known, goes_on, noted, holding, settled, without_row, beyond_width, made_short}
use Rattle.corner_runs.proofs.run.run.Goals as goal

pub loop-limit-init : goal.loop-limit-init
loop-limit-init c = (at_first c.args.reading.counts.shape c.args.reading.numbers.now c.args.words.now (room c.args.trail.now) (contents c.args.trail.now) c.requires.empty, refl)

pub over-requires : goal.over-requires
over-requires c =
    let s = c.args.reading.counts.shape in
    let ws = c.loop-limit.words in
    let h = holding c.loop-limit.invariant.0 c.requires.corner in
    record { long = holding_long s ws h; wide = holding_widths s ws h c.args.reading.counts.fit }

pub enter-requires : goal.enter-requires
enter-requires c = record {
  place = (rw (c.over.ensures.counts, c.over.ensures.numbers, c.over.ensures.words) at c.in-Some.ensures).0;
  holding = holding c.loop-limit.invariant.0 c.requires.corner;
}

pub returns : goal.returns
returns c =
    let E = rw (c.over.ensures.counts, c.over.ensures.numbers, c.over.ensures.words) at c.in_default.ensures in
    record { room = c.loop-limit.invariant.1; run = λ p X e H. settled c.loop-limit.invariant.0 p X e H E }

pub overflow_add-left : goal.overflow_add-left
overflow_add-left c =
    let known = left_known c.loop-limit.invariant.0 c.requires.corner c.in-Some.limit c.enter.new.words c.in-Ok.left c.in-Ok.ensures in
    omega (arith, c.args.reading.counts.fit.3)

-- The run with the new exchange.
further : (c : goal.After-push) → Walks c.args.reading.counts.shape c.args.reading.numbers.now c.args.words.now (c.loop-limit.exchanges + 1) (room c.args.trail.now) (contents c.push.new.self) c.enter.new.words
further c =
    goes_on c.loop-limit.invariant.0 c.in-Some.limit (rw (c.over.ensures.counts, c.over.ensures.numbers, c.over.ensures.words) at c.in-Some.ensures) c.enter.new.words c.in-Ok.left c.in-Ok.ensures (contents c.push.new.self) c.push.result (noted c.loop-limit.trail c.push.new.self _ (room c.args.trail.now) c.loop-limit.invariant.1 c.push.result c.push.ensures.cases)

short : (c : goal.After-push) → c.loop-limit.exchanges + 1 < choose c.args.reading.counts.shape.limits c.args.reading.counts.shape.commands
short c =
    made_short (further c) c.requires.corner

pub overflow_add-exchanges : goal.overflow_add-exchanges
overflow_add-exchanges c = let h = short c in omega (arith, choose_few c.args.reading.counts.shape.limits c.args.reading.counts.shape.commands (omega (arith, c.args.reading.counts.fit.3)))

pub loop-limit-smaller : goal.loop-limit-smaller
loop-limit-smaller c = let h = short c in omega arith

pub loop-limit-preserved : goal.loop-limit-preserved
loop-limit-preserved c = (further c, c.push.ensures.room ∙ c.loop-limit.invariant.1)

pub returns-in-Err-NoRow : goal.returns-in-Err-NoRow
returns-in-Err-NoRow c = record { room = c.loop-limit.invariant.1; run = λ p X s H. without_row c.loop-limit.invariant.0 p X s H c.in-Some.limit (rw (c.over.ensures.counts, c.over.ensures.numbers, c.over.ensures.words) at c.in-Some.ensures) c.enter.new.words (rw c.in-Err-NoRow.field-0-is at c.in-Err-NoRow.ensures) }

pub returns-in-Err-OutOfWidth : goal.returns-in-Err-OutOfWidth
returns-in-Err-OutOfWidth c = record { room = c.loop-limit.invariant.1; run = λ p X s H. beyond_width c.loop-limit.invariant.0 p X s H c.in-Some.limit (rw (c.over.ensures.counts, c.over.ensures.numbers, c.over.ensures.words) at c.in-Some.ensures) c.enter.new.words (rw c.in-Err-OutOfWidth.field-0-is at c.in-Err-OutOfWidth.ensures) }
