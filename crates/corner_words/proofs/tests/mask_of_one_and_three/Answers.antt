use Rattle.corner_words.specs.Corners.{Holding}
use Rattle.corner_words.proofs.Holdings.{holding_long, holding_widths}
use Rattle.tableau_words.proofs.Worked.{one_and_three}
use Rattle.corner_words.proofs.Worked.{holding, own_limits}
use Rattle.corner_words.proofs.tests.mask_of_one_and_three.Goals as goal

pub invariant_of-mask : goal.invariant_of-mask
invariant_of-mask g c =
    let s = c.in_ok-counts.counts.shape in
    let h : Holding s one_and_three = rw c.in_ok-counts.ensures holding in
    record { long = holding_long s one_and_three h; wide = holding_widths s one_and_three h c.in_ok-counts.counts.fit }

pub mask-requires : goal.mask-requires
mask-requires g c = record { holding = rw c.in_ok-counts.ensures holding; own = rw c.in_ok-counts.ensures own_limits }
