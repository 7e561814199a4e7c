use Rattle.std.proofs.Common.{◌+◌, ◌<◌, arith}
use Rattle.tableau.specs.Choose.{choose}
use Rattle.corner_words.proofs.Holdings.{holding_long, holding_widths}
use Rattle.corner_runs.proofs.Bounds.{choose_few}
use Rattle.corner_runs.proofs.Directions.{searching, known}
use Rattle.corner_runs.proofs.Searching.{Searching, search_first, searched, made_few, search_over, never_without_row, search_wide, searches_on}
use Rattle.corner_runs.proofs.search.search.Goals as goal

pub loop-limit-init : goal.loop-limit-init
loop-limit-init c = search_first c.args.counts.shape c.args.words.now

pub invariant_of-least_stopping : goal.invariant_of-least_stopping
invariant_of-least_stopping c =
    let s = c.args.counts.shape in
    let h = searching s c.loop-limit.words (searched c.loop-limit.invariant c.requires) in
    record { long = holding_long s c.loop-limit.words h; wide = holding_widths s c.loop-limit.words h c.args.counts.fit }

pub least_stopping-requires : goal.least_stopping-requires
least_stopping-requires c = searched c.loop-limit.invariant c.requires

pub returns : goal.returns
returns c = λ p X s H. search_over c.loop-limit.invariant p X s H c.in_default.ensures

pub enter-requires : goal.enter-requires
enter-requires c =
    let s = c.args.counts.shape in
    let S = searched c.loop-limit.invariant c.requires in
    record { place = known s c.loop-limit.words c.in-Some.limit S c.in-Some.ensures; holding = searching s c.loop-limit.words S }

-- The search with the new exchange.
further : (c : goal.In-Ok) → Searching c.args.counts.shape c.args.words.now (c.loop-limit.exchanges + 1) c.enter.new.words
further c = record { from = λ p X s H. searches_on c.loop-limit.invariant p X s H c.in-Some.limit c.in-Some.ensures c.enter.new.words c.in-Ok._left c.in-Ok.ensures }

short : (c : goal.In-Ok) → c.loop-limit.exchanges + 1 < choose (c.args.counts.shape.limits + c.args.counts.shape.commands) c.args.counts.shape.commands
short c = made_few (further c) c.requires

pub overflow_add-exchanges : goal.overflow_add-exchanges
overflow_add-exchanges c = let h = short c in omega (arith, choose_few (c.args.counts.shape.limits + c.args.counts.shape.commands) c.args.counts.shape.commands (omega (arith, c.args.counts.fit.1, c.args.counts.fit.3)))

pub loop-limit-smaller : goal.loop-limit-smaller
loop-limit-smaller c = let h = short c in omega arith

pub loop-limit-preserved : goal.loop-limit-preserved
loop-limit-preserved c = further c

pub unreachable-requires : goal.unreachable-requires
unreachable-requires c =
    let S = c.requires in
    never_without_row c.loop-limit.invariant S.p S.X S.shape S.holds c.in-Some.limit c.in-Some.ensures c.enter.new.words (rw c.in-Err-NoRow.field-0-is at c.in-Err-NoRow.ensures)

pub returns-in-Err-OutOfWidth : goal.returns-in-Err-OutOfWidth
returns-in-Err-OutOfWidth c = λ p X s H. search_wide c.loop-limit.invariant p X s H c.in-Some.limit c.in-Some.ensures c.enter.new.words (rw c.in-Err-OutOfWidth.field-0-is at c.in-Err-OutOfWidth.ensures)
