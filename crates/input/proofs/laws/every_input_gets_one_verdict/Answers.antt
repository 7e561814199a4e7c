use Rattle.input.proofs.OneVerdict.{one_verdict}
use Rattle.input.proofs.laws.every_input_gets_one_verdict.Goals as goal

pub returns : goal.returns
returns c = one_verdict
