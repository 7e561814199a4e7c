use Rattle.std.proofs.Common.{refl, sym, ap, ◌∙◌, arith, rules}
use Rattle.plant.specs.Ranges.{low_not_value, high_not_value, counts_wrong, crossed}
use Rattle.plant.proofs.range.judge.Goals as goal
use Rattle.plant.proofs.range.judge.Goals.{then-lows-commands-via-then-lows-commands, then-lows-commands-via-else-lows-commands+then-highs-commands, then-lows-commands-via-else-lows-commands+else-highs-commands+then-shape-commands-gt-MOST_LIMITS}

pub returns-in-Some : goal.returns-in-Some
returns-in-Some c = low_not_value c.in-Some.k refl c.in-Some.ensures

pub returns-in-Some-first_not_value : goal.returns-in-Some-first_not_value
returns-in-Some-first_not_value c = high_not_value c.in-Some-first_not_value.k refl (search rules) c.in-Some-first_not_value.ensures

pub returns-then-lows-commands : goal.returns-then-lows-commands
returns-then-lows-commands c = counts_wrong (search rules) (λ r. elim c.then-lows-commands.branch [
  | then-lows-commands-via-then-lows-commands w ↦ w.if-lows-commands.true (r.0 ∙ sym (ap (λ s. s.commands) c.shape-shape.ensures))
  | then-lows-commands-via-else-lows-commands+then-highs-commands w ↦ w.if-highs-commands.true (r.1 ∙ sym (ap (λ s. s.commands) c.shape-shape.ensures))
  | then-lows-commands-via-else-lows-commands+else-highs-commands+then-shape-commands-gt-MOST_LIMITS w ↦ let same = c.shape-shape.ensures in omega (arith, r.2, ap (λ s. s.commands) same, ap (λ s. s.limits) same, w.if-shape-commands-gt-MOST_LIMITS.true)
])

pub returns-in-Some-first_crossed : goal.returns-in-Some-first_crossed
returns-in-Some-first_crossed c =
    let e = c.in-Some-first_crossed.ensures in
    crossed c.in-Some-first_crossed.k refl (search rules) (search rules) (search rules) e.1 e.2
