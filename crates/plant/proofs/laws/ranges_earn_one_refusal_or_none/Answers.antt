use Rattle.plant.proofs.RangeVerdicts.{one_range_refusal, no_refusal_where_fitting}
use Rattle.plant.proofs.laws.ranges_earn_one_refusal_or_none.Goals as goal

pub returns : goal.returns
returns c = record { one = one_range_refusal; none = no_refusal_where_fitting }
