use Rattle.std.proofs.Common.{◌≡◌, ℕ, ◌+◌, ◌<◌, ◌≤◌, ℤ, pos, Option, rules}
use Rattle.plant.specs.Ranged.{or_zero}
use Rattle.plant_table.proofs.Asked.{each}
use Rattle.plant_table.proofs.taken.numbers.Goals as goal

pub returns : goal.returns
returns g c =
    let Place : ℕ → ℤ → Type 0 = λ i y. (i < c.args.count → (o : Option ℤ) × goal.F-post g c.args.ask (i + 1) o × (y ≡ or_zero o)) × (c.args.count ≤ i → y ≡ pos 0) in
    let all = each _ _ Place g.row.N (pos 0) c.from_fn.result (λ i y q h k. (search rules, search rules)) c.from_fn.ensures.items in
    record { answers = λ i h. (all i h).0; zeros = λ i h. (all i h).1 }
