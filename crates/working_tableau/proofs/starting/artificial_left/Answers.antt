use Rattle.std.proofs.Common.{◌≡◌, ℕ, ◌+◌, ◌-◌, ◌<◌, Bool, true, false, List, length, take, drop, MatchBool, ℤ, pos, ◌≤ℤ◌, ◌<ℤ◌, ap, ◌∙◌, subst, arith, rules, tests}
use Rattle.std.specs.List.{HoldsAt, AllWithin}
use Rattle.std.proofs.lemmas.Iterator.{cases_from_any, YieldsList-from_slice}
use Rattle.std.proofs.lemmas.List.{get_or-take, get_or-drop, length-take-le, length-drop}
use Rattle.exact.specs.Vectors.{entries}
use Rattle.words.specs.declared.counts.Shape.{Shape}
use Rattle.corner_words.specs.Reads.{OwnLimits}
use Rattle.working_tableau.specs.Starts.{SomeArtificial}
use Rattle.working_tableau.proofs.starting.artificial_left.Goals as goal

-- The m words behind the first are those of the rows.
module _ (c : Shape) (ws : List ℤ) (m n : ℕ) (rows : m ≡ c.commands) (own : n ≡ c.limits) (long : m < length ws) where
  abbrev row_limits : List ℤ
  row_limits = take m (drop 1 ws)

  row_limits_long : length row_limits ≡ m
  row_limits_long = length-take-le m (drop 1 ws) (omega (arith, length-drop 1 ws))

  row_limit : (r : ℕ) → r < m → entries row_limits r ≡ entries ws (1 + r)
  row_limit r l = get_or-take m (drop 1 ws) r (pos 0) l ∙ get_or-drop 1 ws r (pos 0)

  abbrev Left : Bool → Type 0
  Left true = SomeArtificial c ws
  Left false = OwnLimits c ws

  left : (b : Bool) → MatchBool b ((k : ℕ) × (k < length row_limits) × HoldsAt (λ z. pos n ≤ℤ z) row_limits k) (AllWithin (λ z. z <ℤ pos n) row_limits 0 (length row_limits)) → Left b
  left true (k, l, h) = (k, omega (arith, row_limits_long), subst (λ z. pos c.limits ≤ℤ z) (row_limit k (omega (arith, row_limits_long))) (rw own at (h (pos 0))))
  left false h = λ r l. subst (λ z. z <ℤ pos c.limits) (row_limit r (omega arith)) (rw own at (h r (pos 0) (omega arith) (omega (arith, row_limits_long))))

pub returns : goal.returns
returns c =
    let t = c.args.tableau in
    let s = t.counts.shape in
    let ws = t.words.now in
    let n = c.shape-commands.result.limits in
    let m = 1 + c.shape-commands.result.commands - 1 in
    let e : c.shape-commands.result.commands ≡ s.commands = ap (λ (s : Shape). s.commands) c.shape-commands.ensures in
    left s ws m n (omega arith) (ap (λ (s : Shape). s.limits) c.shape-commands.ensures) (omega (arith, t.long)) c.any.result
    (cases_from_any _ _ _ (λ z. pos n ≤ℤ z) (λ z. z <ℤ pos n) c.any.ensures.ran (YieldsList-from_slice (take m (drop 1 ws)) cc) (λ x q k. search (rules, tests)) (λ x q k. search (rules, tests)))
