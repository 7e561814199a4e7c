use Rattle.plant.proofs.Describing.{one_plant}
use Rattle.plant.proofs.laws.words_describe_at_most_one_plant.Goals as goal

pub returns : goal.returns
returns c = one_plant
