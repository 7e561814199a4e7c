use Rattle.std.proofs.Common.{arith}
use Rattle.std.proofs.lemmas.Result.{err_from_is_err_and}
use Rattle.words.proofs.Places.{begun, ended, short_here, refused_here, goes_on}
use Rattle.words.proofs.reader.Reader.read_part.Goals as goal

pub loop-at-init : goal.loop-at-init
loop-at-init c = begun c.args.self.now.stands

pub returns-in_default : goal.returns-in_default
returns-in_default c = short_here c.args.self.now.stands c.loop-at.invariant (omega arith) c.in_default.ensures.lookup.3

pub returns-in_err-step : goal.returns-in_err-step
returns-in_err-step c =
    let word = c.in-Some.ensures.lookup.3 in
    let p = err_from_is_err_and c.from_residual.result c.from_residual.ensures.1 in
    rw (p.1, p.2) (refused_here c.args.self.now.stands c.loop-at.invariant (omega arith) word.0 (rw (word.1 0) at c.in_err-step.ensures))

pub loop-at-preserved : goal.loop-at-preserved
loop-at-preserved c =
    let word = c.in-Some.ensures.lookup.3 in
    let step = rw (word.1 0) at c.in_ok-step.ensures in
    goes_on c.args.self.now.stands c.loop-at.invariant (omega arith) c.step.new.self word.0 step.0 step.1

pub returns : goal.returns
returns c = ended c.args.self.now.stands c.loop-at.invariant (let i = c.loop-at.invariant.from in omega arith)
