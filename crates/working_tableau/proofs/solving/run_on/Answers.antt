use Rattle.std.proofs.Common.{take}
use Rattle.bounded_list.specs.Contents.{contents, room}
use Rattle.tableau_words.specs.Layout.{size}
use Rattle.working_tableau.proofs.Outcomes.{solve_answered, run_kept, used_run}
use Rattle.working_tableau.proofs.solving.run_on.Goals as goal

pub conclude-requires-clause-corner : goal.conclude-requires-clause-corner
conclude-requires-clause-corner c =
    let s = c.args.reading.counts.shape in
    let ws = c.args.words.now in
    let after = c.run-ran.new.words in
    let notes = contents c.run-ran.new.trail in
    let R = used_run s c.args.reading.numbers.now ws after (room c.args.trail.now) notes c.run-ran.result c.tableau_size-size.result c.tableau_size-size.ensures.value c.run-ran.ensures.run in
    run_kept s c.args.reading.numbers.now (take (size s) ws) after (room c.args.trail.now) notes c.run-ran.result c.requires.corner R

pub returns : goal.returns
returns c =
    let s = c.args.reading.counts.shape in
    let ws = c.args.words.now in
    let after = c.run-ran.new.words in
    let notes = contents c.run-ran.new.trail in
    let R = used_run s c.args.reading.numbers.now ws after (room c.args.trail.now) notes c.run-ran.result c.tableau_size-size.result c.tableau_size-size.ensures.value c.run-ran.ensures.run in
    record {
      room = c.run-ran.ensures.room;
      answer = solve_answered s c.args.reading.numbers.now (take (size s) ws) after c.args.tray.now c.conclude.new.tray (room c.args.trail.now) notes c.run-ran.result c.conclude.result R c.conclude.ensures;
    }
