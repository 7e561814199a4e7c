use Rattle.std.proofs.Common.{◌≡◌, length, ap}
use Rattle.words.specs.Steps.{done}
use Rattle.words.proofs.Ends.{not_done, unread, laid_out, done_shape}
use Rattle.words.proofs.reader.Reader.counts.Goals as goal

pub returns-in-Done : goal.returns-in-Done
returns-in-Done c =
    let r = c.args.self.now in
    let e = c.in-Done.is in
    let all : r.at ≡ length r.words.now = r.whole (ap done e) in
    (laid_out r.stands e all, all, done_shape r.stands e)

pub returns-in_default : goal.returns-in_default
returns-in_default c = let r = c.args.self.now in unread r.stands (not_done r.state c.in_default.not-Done)
