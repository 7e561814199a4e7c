use Rattle.plant.proofs.Encoding.{every_plant}
use Rattle.plant.proofs.laws.every_plant_in_bounds_has_words.Goals as goal

pub returns : goal.returns
returns c = every_plant
