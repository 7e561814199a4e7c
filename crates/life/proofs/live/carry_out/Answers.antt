use Rattle.std.proofs.Common.{[], length, refl, ◌∙◌, subst, rules}
use Rattle.bounded_list.specs.Contents.{contents, room}
use Rattle.map_steps.specs.Steps as call
use Rattle.clutch_map.specs.Views.{seen, state, view}
use Rattle.life.specs.Lives.{MakesSense, starts, solves, grows, answers}
use Rattle.life.specs.declared.order.Order.TheVariants.{Start, Solve, Grow, Answer}
use Rattle.life.proofs.Carrying.{carried, named, trail_part, carried_whole}
use Rattle.life.proofs.live.carry_out.Goals as goal

pub returns-in-Start : goal.returns-in-Start
returns-in-Start g c =
    let plants = g.S.Shelf.plants c.args.shelf.now in
    let v = seen c.args.map.now c.args.tray.now [] (length c.args.trail.now) in
    let (s, there) = named plants c.in-Start.place (subst (MakesSense plants) c.in-Start.is c.requires) in
    carried plants v (seen c.start.new.map c.start.new.tray [] (length c.args.trail.now)) (Start c.in-Start.place c.in-Start.lent) c.args.order (call.Start s.kind s.meaning) (call.to_start c.unwrap-started.result) _ c.min-n.result [] (length c.args.trail.now) c.in-Start.is (starts s there) c.min-n.ensures refl refl (search rules)
    ((rw c.unwrap-started.ensures at c.start.ensures.started) s there [] (length c.args.trail.now))

pub returns-in-Solve : goal.returns-in-Solve
returns-in-Solve g c =
    let plants = g.S.Shelf.plants c.args.shelf.now in
    let v = seen c.args.map.now c.args.tray.now [] (length c.args.trail.now) in
    carried plants v (view c.solve.new.self c.solve.new.tray c.solve.new.trail) (Solve c.in-Solve.reading c.in-Solve.lent c.in-Solve.notes) c.args.order (call.Solve c.in-Solve.reading.now) (call.to_solve c.solve.result) _ c.min-n-in-Solve.result (contents c.new-noted.result) (room c.new-noted.result) c.in-Solve.is solves c.min-n-in-Solve.ensures c.new-noted.ensures.contents (c.new-noted.ensures.room ∙ trail_part c.args.trail.now c.min-l.result c.in-Solve.notes c.min-l.ensures) (search rules)
    c.solve.ensures

pub returns-in-Grow : goal.returns-in-Grow
returns-in-Grow g c =
    let plants = g.S.Shelf.plants c.args.shelf.now in
    let v = seen c.args.map.now c.args.tray.now [] (length c.args.trail.now) in
    carried_whole plants v (state c.grow.new.self) Grow c.args.order call.Grow (call.to_grow c.grow.result) _ c.in-Grow.is grows refl refl refl (search rules) (c.grow.ensures c.args.tray.now [] (length c.args.trail.now))

pub returns-in-Answer : goal.returns-in-Answer
returns-in-Answer g c =
    let plants = g.S.Shelf.plants c.args.shelf.now in
    let v = seen c.args.map.now c.args.tray.now [] (length c.args.trail.now) in
    carried plants v (seen c.args.map.now c.answer.new.tray [] (length c.args.trail.now)) (Answer c.in-Answer.reading c.in-Answer.lent) c.args.order (call.Answer c.in-Answer.reading.now) (call.to_answer c.answer.result) _ c.min-n-in-Answer.result [] (length c.args.trail.now) c.in-Answer.is answers c.min-n-in-Answer.ensures refl refl (search rules) (c.answer.ensures [] (length c.args.trail.now))
