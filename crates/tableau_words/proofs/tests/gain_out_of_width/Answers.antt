use Rattle.std.proofs.Common.{refl}
use Rattle.tableau_words.proofs.Worked.{greater_constants}
use Rattle.tableau_words.proofs.Checked.{greatest_size, checked}
use Rattle.tableau_words.proofs.tests.gain_out_of_width.Goals as goal

pub exchange-requires-clause-widths : goal.exchange-requires-clause-widths
unfolding greatest_size
exchange-requires-clause-widths g c = checked greater_constants refl
