use Rattle.std.proofs.Common.{◌+◌, Some, refl, sym, ap, ◌∙◌, pos, arith, rules}
use Rattle.std.proofs.lemmas.Iterator.{IsFirst-from_position, YieldsList-from_slice}
use borrow.Author.Tests.{tests}
use Rattle.map_steps.specs.ReadingFaults.{InRange, number, range}
use Rattle.words.specs.declared.counts.Shape.{Shape}
use Rattle.clutch_map.proofs.readings.taken.Goals as goal

pub returns-then-numbers-shape-clause-fault : goal.returns-then-numbers-shape-clause-fault
returns-then-numbers-shape-clause-fault c = (0, refl, λ p e. number (λ q. c.if-numbers-shape.true (q ∙ sym e ∙ sym (ap (λ (s : Shape). s.readings) c.shape.ensures))))

pub returns-in-Some-clause-fault : goal.returns-in-Some-clause-fault
returns-in-Some-clause-fault c =
    let (inside, out, before) = IsFirst-from_position _ _ (Some c.in-Some.place) (λ z. ¬ InRange z) InRange c.in-Some.ensures.ran (YieldsList-from_slice c.args.numbers.now cc) (λ x q k. search (rules, tests)) (λ x q k. search (rules, tests)) in
    (c.in-Some.place + 1, refl, λ p e. range c.in-Some.place (c.if-numbers-shape.false ∙ ap (λ (s : Shape). s.readings) c.shape.ensures ∙ e) inside (out (pos 0)) (λ i h. before i (pos 0) (omega arith) h) refl)
