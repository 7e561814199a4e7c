-- What is known of words that hold a corner of the plant.
use Rattle.std.proofs.Common.{◌≡◌, ℕ, ◌-◌, List, take, ℤ, pos, ◌<ℤ◌, sym, ap, ◌∙◌, subst, arith}
use native.Mathlib.Nat.{sub-zero}
use Rattle.std.proofs.lemmas.Int.{ints}
use Rattle.plant.specs.Commands.{column}
use Rattle.tableau.specs.Plants.{limits}
use Rattle.words.specs.declared.counts.Shape.{Shape}
use Rattle.tableau_words.specs.Layout.{size}
use Rattle.corner_words.specs.Corners.{Holding}
use Rattle.corner_words.specs.Reads.{OwnLimits}
use Rattle.corner_runs.specs.Answers.{SomeCorner}
use Rattle.trays.specs.Weights.{RowsKnown}
use Rattle.trays.proofs.Weighed.{rows_known as held_rows}

module _ (c : Shape) (ws : List ℤ) (S : SomeCorner c ws) where
  pub corner_holding : Holding c ws
  corner_holding = record { p = S.p; n = limits S.p; a = column S.p; X = S.X; shape = S.shape; all = omega arith; few = omega arith; holds = S.holds }

  pub rows_known : RowsKnown c ws
  rows_known = held_rows c S.p S.X ws S.shape S.holds.held

  pub own_limits : OwnLimits c ws
  own_limits r l = let (b, k, e) = rows_known r l in subst (λ z. z <ℤ pos c.limits) (sym e) (omega (arith, ints))

-- The first n words of an array, where a tableau takes n.
pub used_words : (c : Shape) (ws : List ℤ) (n : ℕ) → n ≡ size c → take (n - 0) ws ≡ take (size c) ws
used_words c ws n e = ap (λ k. take k ws) (sub-zero n ∙ e)
