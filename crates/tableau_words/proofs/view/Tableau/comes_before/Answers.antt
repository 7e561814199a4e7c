use Rattle.std.proofs.Common.{w64, SFits, rules}
use Rattle.std.proofs.lemmas.Int.{to_z-of_z}
use Rattle.tableau_words.specs.Layout.{first_row, number_at}
use Rattle.tableau_words.proofs.Ratios.{compared_cong, decided}
use Rattle.tableau_words.proofs.view.Tableau.comes_before.Goals as goal

pub returns : goal.returns
returns c =
    let shape = c.args.self.now.counts.shape in
    let f = number_at shape c.args.self.now.words.now c.args.first in
    let g = number_at shape c.args.self.now.words.now c.args.second in
    let s = f c.args.column in
    let t = g c.args.column in
    let fits_s : SFits w64 c.number.result = search rules in
    let fits_t : SFits w64 c.number-2.result = search rules in
    let h = simp to_z-of_z at c.compare.ensures in
    let k = rw (c.list.ensures.long, c.number.ensures.value, c.number-2.ensures.value) at h in
    rw c.is_lt.ensures (decided (first_row shape) f g s t c.compare.result (compared_cong (first_row shape) _ f _ g s t c.compare.result c.list.ensures.numbers c.list-2.ensures.numbers k))
