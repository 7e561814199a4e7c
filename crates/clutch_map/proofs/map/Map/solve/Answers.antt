use Rattle.std.proofs.Common.{take, sym, subst, ◌∙◌}
use Rattle.std.proofs.lemmas.Result.{err_from_is_err_and}
use Rattle.words.specs.declared.counts.Shape.{Shape}
use Rattle.tableau_words.specs.Layout.{size}
use Rattle.corner_runs.specs.Answers.{HoldsCorner}
use Rattle.bounded_list.specs.Contents.{contents, room}
use Rattle.plant_table.specs.Tabled.{meaning_of}
use Rattle.clutch_map.specs.Views.{view}
use Rattle.clutch_map.proofs.Seen.{some_listed, first_corner, first_some}
use Rattle.clutch_map.proofs.SolveSteps.{solve_step}
use Rattle.clutch_map.proofs.map.Map.solve.Goals as goal

pub returns-in_err-reading : goal.returns-in_err-reading
returns-in_err-reading c =
    let e = err_from_is_err_and c.from_residual.result c.from_residual.ensures.1 in
    rw (e.1, e.2) (c.in_err-reading.ensures (contents c.args.trail.now) (room c.args.trail.now)).0

pub solve_from-requires-clause-corner : goal.solve_from-requires-clause-corner
solve_from-requires-clause-corner c =
    let self = c.args.self.now in
    let ready = c.in_ok-reading.ensures.ready (contents c.args.trail.now) (room c.args.trail.now) in
    first_some (meaning_of self.table) (contents self.corners) self.words self.records self.first (some_listed (contents self.corners) self.kind (meaning_of self.table) _ ready.force) c.in_ok-reading.reading.counts.shape c.in_ok-reading.ensures.counts

pub solve_from-requires-clause-tray : goal.solve_from-requires-clause-tray
solve_from-requires-clause-tray c = (c.in_ok-reading.ensures.ready (contents c.args.trail.now) (room c.args.trail.now)).tray

pub returns : goal.returns
returns c =
    let self = c.args.self.now in
    let p = meaning_of self.table in
    let cs = contents self.corners in
    let v = view self c.args.tray.now c.args.trail.now in
    let ready = c.in_ok-reading.ensures.ready (contents c.args.trail.now) (room c.args.trail.now) in
    let counts = c.in_ok-reading.ensures.counts in
    let (X, holds, mask) = first_corner p cs self.words self.records self.first (some_listed (contents self.corners) self.kind (meaning_of self.table) _ ready.force) in
    let holds' : HoldsCorner p X (take (size c.in_ok-reading.reading.counts.shape) self.words) = subst (λ (s : Shape). HoldsCorner p X (take (size s) self.words)) (sym counts) holds in
    solve_step v c.args.reading.now (record { kind = self.kind; meaning = p }) X ready mask c.solve_from.new.tray (contents c.solve_from.new.trail) c.solve_from.result
    (room c.clear.new.self) (room c.solve_from.new.trail) c.clear.ensures.room (c.solve_from.ensures.room ∙ c.clear.ensures.room) (rw c.in_ok-reading.ensures.numbers at (c.solve_from.ensures.answer p X counts holds'))
