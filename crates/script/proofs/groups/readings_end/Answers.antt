use Rattle.std.proofs.Common.{arith}
use Rattle.std.proofs.lemmas.List.{take_rest}
use Rattle.script.proofs.Readings.{ends_after}
use Rattle.script.proofs.groups.readings_end.Goals as goal

pub returns : goal.returns
returns c = ends_after c.args.words.now c.args.each c.args.from c.leading_readings.result (omega arith) c.requires (rw (take_rest c.args.words.now c.args.from) at c.leading_readings.ensures)
