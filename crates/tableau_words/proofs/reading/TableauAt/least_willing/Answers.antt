use Rattle.std.proofs.Common.{◌≡◌, ℕ, ◌<◌, ◌≤◌, true, false, List, Option, Some, None, MatchOption, ℤ, ap, subst, arith, rules, tests}
use Rattle.std.proofs.lemmas.Iterator.{first_from_Range}
use Rattle.words.specs.declared.counts.Shape.{Shape}
use Rattle.tableau_words.specs.Entering.{WillingAnswer, EnteringAnswer}
use Rattle.tableau_words.proofs.reading.TableauAt.least_willing.Goals as goal

-- The first of the range, said of the limits of the counts.
module _ (c : Shape) (θ ws : List ℤ) (n : ℕ) (all : n ≡ c.limits) where
  least : (o : Option ℕ) → MatchOption o ((k : ℕ) → 0 ≤ k → k < n → WillingAnswer c θ k ws false) (λ i. (0 ≤ i) × (i < n) × WillingAnswer c θ i ws true × ((k : ℕ) → 0 ≤ k → k < i → WillingAnswer c θ k ws false)) → EnteringAnswer c θ ws o
  least None h = λ i l. h i (omega arith) (omega arith)
  least (Some j) (low, high, is, before) = (omega arith, is, λ i l. before i (omega arith) l)

pub returns : goal.returns
returns c =
    let at = c.args.self.now in
    let s = at.reading.counts.shape in
    let θ = at.reading.numbers.now in
    let ws = at.words.now in
    least s θ ws c.shape.result.limits (ap (λ (s : Shape). s.limits) c.shape.ensures) c.find.result
    (first_from_Range _ _ _ c.find.result (λ i. WillingAnswer s θ i ws true) (λ i. WillingAnswer s θ i ws false) c.find.ensures.ran
    (λ x q k. subst (λ i. WillingAnswer s θ i ws true) k.shows k.called.met.1)
    (λ x q k. (search (rules, tests), subst (λ i. WillingAnswer s θ i ws false) k.shows k.called.met.1)))
