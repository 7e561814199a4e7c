use Rattle.std.proofs.Common.{refl, arith}
use Rattle.std.proofs.lemmas.Int.{ints}
use Rattle.tableau_words.proofs.Checked.{greatest_size, checked}
use Rattle.exchange_bench.proofs.Literals.{divisor_1, common_divisor}
use Rattle.exchange_bench.proofs.run.Goals as goal

pub repeat-sum-requires : goal.repeat-sum-requires
unfolding greatest_size
repeat-sum-requires c = record { places = (omega arith, omega arith); widths = checked divisor_1 refl; positive = (omega (arith, ints), omega (arith, ints)) }

pub repeat-sum-requires-2 : goal.repeat-sum-requires-2
unfolding greatest_size
repeat-sum-requires-2 c = record { places = (omega arith, omega arith); widths = checked common_divisor refl; positive = (omega (arith, ints), omega (arith, ints)) }
