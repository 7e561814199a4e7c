use Rattle.words.proofs.Refusals.{told_apart}
use Rattle.words.proofs.laws.number_layer_and_place_tell_refusals_apart.Goals as goal

pub returns : goal.returns
returns c = told_apart
