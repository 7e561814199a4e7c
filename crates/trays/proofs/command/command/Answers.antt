use Rattle.std.proofs.Common.{◌≡◌, ◌+◌, map, take, ℤ, ap, ◌∙◌, w64, SFits, rules}
use lib.Signed.{quot_z}
use Rattle.std.proofs.lemmas.Int.{to_z-of_z}
use Rattle.exact.specs.Vectors.{entries}
use Rattle.trays.proofs.Divided.{divided_answered}
use Rattle.trays.proofs.command.command.Goals as goal

pub returns : goal.returns
returns c =
    let t = c.args.tableau in
    let s = t.reading.counts.shape in
    let ws = t.words.now in
    let q = c.divisor-common.result in
    let xs = c.undivided-numbers.result in
    let ys = c.divide.new.numbers in
    let fits : SFits w64 (entries ws 0) = search rules in
    let q_fits : SFits w64 q = search rules in
    let divided : ys ≡ map (λ z. quot_z z q) (take (s.commands + 2) xs) = rw c.shape-commands.ensures at c.divide.ensures ∙ ap (λ (g : ℤ). map (λ z. quot_z z g) (take (s.commands + 2) xs)) (to_z-of_z w64 q q_fits) in
    rw c.shape-commands.ensures (divided_answered s t.reading.numbers.now ws q xs ys c.divisor-common.ensures.positive c.undivided-numbers.ensures (simp (to_z-of_z, c.shape-commands.ensures) at c.divisor-common.ensures.greatest) divided)
