-- What is known of words that hold some corner.
use Rattle.std.proofs.Common.{◌≡◌, ℕ, suc, ◌+◌, ◌<◌, List, length, ℤ, pos, ◌≤ℤ◌, ◌<ℤ◌, Some, subst, arith}
use Rattle.std.proofs.lemmas.Int.{ints}
use Rattle.exact.specs.Bounds.{AllInWidth}
use Rattle.exact.specs.Vectors.{entries}
use Rattle.plant.specs.Commands.{value}
use Rattle.plant.specs.Meaning.{Meaning, shape_of}
use Rattle.tableau.specs.Exchange.{Leaves}
use Rattle.tableau.specs.Plants.{commands}
use Rattle.words.specs.Layout.{InBounds}
use Rattle.words.specs.declared.counts.Shape.{Shape}
use Rattle.tableau_words.specs.Layout.{limit_column, size, number_at}
use Rattle.tableau_words.specs.Leaving.{LeavingAnswer}
use Rattle.corner_words.specs.Corners.{CornerIn, Holds, Holding}
use Rattle.corner_words.proofs.Numbers.{holds_widths, denominator_positive, pivot_positive}

module _ (c : Shape) (ws : List ℤ) (H : Holding c ws) where
  pub holding_long : length ws ≡ size c
  holding_long = rw H.shape H.holds.held.long

  pub holding_widths : InBounds c → AllInWidth ws
  holding_widths counts = holds_widths H.p H.n H.a H.X ws (subst InBounds H.shape counts) H.few H.holds

  pub holding_positive : pos 0 <ℤ entries ws 0
  holding_positive = denominator_positive H.p H.n H.a H.X ws H.holds

  -- The word of a row is the limit of its row.
  pub holding_limit : (r : ℕ) → r < c.commands → pos 0 ≤ℤ entries ws (1 + r)
  holding_limit r l = let e = H.holds.held.limits r (subst (λ (q : Shape). r < q.commands) H.shape l) in omega (arith, ints, e)

  -- The row that leaves when limit j enters.
  module _ (j r : ℕ) (L : LeavingAnswer c j ws (Some r)) where
    leaves : Leaves (commands H.p) H.a (suc (commands H.p)) (value H.p) H.X.U j r
    leaves = L H.p H.a H.X.β H.X.D H.X.U H.shape H.holds.held

    pub leaving_inside : r < c.commands
    leaving_inside = rw H.shape leaves.inside

    pub leaving_positive : j < c.limits → pos 0 <ℤ number_at c ws r (limit_column c j)
    leaving_positive l = rw H.shape (pivot_positive H.p H.n H.a H.X ws j r (subst (λ (q : Shape). j < q.limits) H.shape l) leaves H.holds)

-- Row r belongs to limit l, at any corner whose tableau the words hold.
abbrev pub LimitAnswer : Shape → ℕ → List ℤ → ℕ → Type 0
LimitAnswer c r ws l = (p : Meaning) (n : ℕ) (a : ℕ → ℕ → ℤ) (X : CornerIn p n a) → c ≡ shape_of p → Holds p n a X ws → l ≡ X.β r

-- It does where the word of the row says l.
pub limit_read : (c : Shape) (ws : List ℤ) (r l : ℕ) → r < c.commands → entries ws (1 + r) ≡ pos l → LimitAnswer c r ws l
limit_read c ws r l h e p n a X s H = let k = H.held.limits r (subst (λ (q : Shape). r < q.commands) s h) in omega (arith, ints, k)
