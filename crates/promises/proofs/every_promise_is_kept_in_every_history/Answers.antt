use Rattle.promises.proofs.KeptHistories.{every_promise}
use Rattle.promises.proofs.every_promise_is_kept_in_every_history.Goals as goal

pub returns : goal.returns
returns c = every_promise
