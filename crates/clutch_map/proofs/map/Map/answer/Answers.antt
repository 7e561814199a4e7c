use Rattle.std.proofs.Common.{[], take, sym, subst}
use Rattle.std.proofs.lemmas.Result.{err_from_is_err_and}
use Rattle.bounded_list.specs.Contents.{contents}
use Rattle.plant_table.specs.Tabled.{meaning_of}
use Rattle.words.specs.declared.counts.Shape.{Shape}
use Rattle.corner_words.proofs.Holdings.{holding_long, holding_widths, holding_positive}
use Rattle.corner_runs.specs.Answers.{SomeCorner}
use Rattle.corner_list.specs.Records.{corner, tableau_in}
use Rattle.corner_list.specs.Regions.{AllReadable}
use Rattle.corner_list.proofs.Listing.{all_records_readable}
use Rattle.trays.specs.Commands.{CommandAnswer}
use Rattle.words.specs.Layout.{InBounds}
use Rattle.working_tableau.proofs.Corners.{corner_holding}
use Rattle.clutch_map.proofs.AnswerSteps.{none_step, not_yet_step, region_some, answered_step}
use Rattle.clutch_map.proofs.map.Map.answer.Goals as goal
use Rattle.clutch_map.proofs.map.Map.answer.Goals.{In-Some}

pub returns-in_err-reading : goal.returns-in_err-reading
returns-in_err-reading c = λ es most.
    let e = err_from_is_err_and c.from_residual.result c.from_residual.ensures.1 in
    rw (e.1, e.2) (c.in_err-reading.ensures es most).1

pub region-requires : goal.region-requires
region-requires c =
    let self = c.args.self.now in
    let s = c.in_ok-reading.reading.counts.shape in
    let counts = c.in_ok-reading.ensures.counts in
    let bounds : InBounds s = c.in_ok-reading.reading.counts.fit in
    subst (λ cs. AllReadable s cs) (sym c.as_slice-corners.ensures) (subst (λ (s : Shape). AllReadable s (contents self.corners)) (sym counts) (all_records_readable (meaning_of self.table) (contents self.corners) (subst InBounds counts bounds) self.records))

pub returns-then-is_finished : goal.returns-then-is_finished
returns-then-is_finished c = λ es most.
    let self = c.args.self.now in
    let asked = c.in_ok-reading.ensures in
    none_step self c.args.reading.now c.args.tray.now es most c.in_ok-reading.reading.counts.shape asked.counts (asked.ready es most) c.as_slice-corners.result.now c.as_slice-corners.ensures (rw asked.numbers at c.in_default.ensures) c.is_finished.result c.is_finished.ensures c.if-is_finished.true

pub returns-in_default : goal.returns-in_default
returns-in_default c = λ es most.
    let self = c.args.self.now in
    let asked = c.in_ok-reading.ensures in
    not_yet_step self c.args.reading.now c.args.tray.now es most c.in_ok-reading.reading.counts.shape asked.counts (asked.ready es most) c.as_slice-corners.result.now c.as_slice-corners.ensures (rw asked.numbers at c.in_default.ensures) c.is_finished.result c.is_finished.ensures c.if-is_finished.false

-- The words of the record hold a corner.
found : (c : In-Some) → SomeCorner c.in_ok-reading.reading.counts.shape (tableau_in c.in_ok-reading.reading.counts.shape (corner c.as_slice-corners.result.now c.in-Some.place))
found c =
    let asked = c.in_ok-reading.ensures in
    region_some c.args.self.now c.args.reading.now c.args.tray.now [] 0 c.in_ok-reading.reading.counts.shape asked.counts (asked.ready [] 0) c.as_slice-corners.result.now c.as_slice-corners.ensures c.in-Some.place (rw asked.numbers at c.in-Some.ensures)

pub invariant_of-command : goal.invariant_of-command
invariant_of-command c =
    let s = c.in_ok-reading.reading.counts.shape in
    let ws = tableau_in s (corner c.as_slice-corners.result.now c.in-Some.place) in
    let h = corner_holding s ws (found (goal.at.invariant_of-command c).In-Some) in
    let bounds : InBounds s = c.in_ok-reading.reading.counts.fit in
    record { long = rw c.tableau_size.ensures.value (holding_long s ws h); wide = rw c.tableau_size.ensures.value (holding_widths s ws h bounds) }

pub command-requires : goal.command-requires
command-requires c =
    let s = c.in_ok-reading.reading.counts.shape in
    let ws = tableau_in s (corner c.as_slice-corners.result.now c.in-Some.place) in
    rw c.tableau_size.ensures.value (holding_positive s ws (corner_holding s ws (found (goal.at.command-requires c).In-Some)))

pub lay-requires : goal.lay-requires
lay-requires c = (c.in_ok-reading.ensures.ready [] 0).tray

pub returns : goal.returns
returns c = λ es most.
    let asked = c.in_ok-reading.ensures in
    let s = c.in_ok-reading.reading.counts.shape in
    let r = corner c.as_slice-corners.result.now c.in-Some.place in
    let C : CommandAnswer s c.in_ok-reading.reading.numbers.now (tableau_in s r) c.command.result = subst (λ n. CommandAnswer s c.in_ok-reading.reading.numbers.now (take n r.words) c.command.result) c.tableau_size.ensures.value c.command.ensures in
    answered_step c.args.self.now c.args.reading.now c.args.tray.now es most s asked.counts (asked.ready es most) c.as_slice-corners.result.now c.as_slice-corners.ensures c.in-Some.place (rw asked.numbers at c.in-Some.ensures) c.command.result c.lay.new.tray (rw asked.numbers at C) c.lay.ensures
