use Rattle.std.proofs.Common.{◌≡◌, ℕ, ◌<◌, ◌≤◌, List, Option, Some, None, MatchOption, ℤ, pos, ◌<ℤ◌, ◌≤ℤ◌, ap, subst, arith, rules, tests}
use Rattle.std.proofs.lemmas.Iterator.{first_from_Range}
use Rattle.words.specs.declared.counts.Shape.{Shape}
use Rattle.corner_runs.specs.Answers.{AlongAnswer, StoppingAnswer}
use Rattle.corner_runs.proofs.Directions.{passed, found, ended}
use Rattle.corner_runs.proofs.stopping.least_stopping.Goals as goal

-- The first of the range, said of the limits of the counts.
module _ (c : Shape) (ws : List ℤ) (n : ℕ) (all : n ≡ c.limits) where
  abbrev Stops : ℕ → Type 0
  Stops j = (z : ℤ) × AlongAnswer c j ws z × (pos 0 <ℤ z)

  abbrev Passes : ℕ → Type 0
  Passes j = (z : ℤ) × AlongAnswer c j ws z × (z ≤ℤ pos 0)

  least : (o : Option ℕ) → MatchOption o ((k : ℕ) → 0 ≤ k → k < n → Passes k) (λ j. (0 ≤ j) × (j < n) × Stops j × ((k : ℕ) → 0 ≤ k → k < j → Passes k)) → StoppingAnswer c ws o
  least None h = ended c ws (λ i l. let x = h i (omega arith) (omega arith) in passed c ws i x.0 x.1 x.2)
  least (Some j) (low, high, s, before) = found c ws j s.0 (omega arith) s.1 s.2 (λ i l. let x = before i (omega arith) l in passed c ws i x.0 x.1 x.2)

pub returns : goal.returns
returns c =
    let t = c.args.tableau in
    let s = t.counts.shape in
    let ws = t.words.now in
    let n = c.shape.result.limits in
    let e = ap (λ (s : Shape). s.limits) c.shape.ensures in
    least s ws n e c.find.result
    (first_from_Range _ _ _ c.find.result (Stops s ws n e) (Passes s ws n e) c.find.ensures.ran
    (λ x q k. subst (Stops s ws n e) k.shows k.called.met.1)
    (λ x q k. (search (rules, tests), subst (Passes s ws n e) k.shows k.called.met.1)))
