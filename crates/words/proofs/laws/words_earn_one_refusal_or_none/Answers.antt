use Rattle.words.proofs.Verdicts.{one_refusal, not_laid_out}
use Rattle.words.proofs.laws.words_earn_one_refusal_or_none.Goals as goal

pub returns : goal.returns
returns c = record { one = one_refusal; none = not_laid_out }
