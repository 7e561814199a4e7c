use Rattle.tableau.proofs.Masks.{short_mask, mask_basis, basis_mask, across_mask}
use Rattle.tableau.proofs.theorems.a_mask_tells_corners_apart.Goals as goal

pub returns : goal.returns
returns c = record { short = short_mask; basis = mask_basis; one = basis_mask; across = across_mask }
