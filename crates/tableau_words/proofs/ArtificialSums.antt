-- The rows of artificial limits, summed.
use Rattle.std.proofs.Common.{◌≡◌, ℕ, ◌<◌, Bool, true, false, cond, ltb, List, ℤ, pos, ◌*ℤ◌, sym, ◌∙◌, subst}
use lib.IntN.{zero-*ℤ}
use Rattle.exact.specs.Vectors.{sum}
use Rattle.exact.proofs.Ring.{one-*}
use Rattle.exact.proofs.Sums.{sum_cong}
use Rattle.plant.specs.Meaning.{Meaning, shape_of}
use Rattle.tableau.specs.Artificial.{is_artificial}
use Rattle.tableau.specs.Plants.{commands, limits}
use Rattle.words.specs.declared.counts.Shape.{Shape}
use Rattle.tableau_words.specs.Layout.{row_width}
use Rattle.tableau_words.specs.Held.{Held, basis_row}
use Rattle.tableau_words.specs.Artificial.{number_if_artificial, ArtificialSum}

chosen : (b : Bool) (x : ℤ) → cond b (pos 0) x ≡ cond b (pos 0) (pos 1) *ℤ x
chosen true x = sym (zero-*ℤ x)
chosen false x = sym (one-* x)

module _ (p : Meaning) (a : ℕ → ℕ → ℤ) (β : ℕ → ℕ) (D : ℤ) (U : ℕ → ℕ → ℤ) (ws : List ℤ) (H : Held p a β D U ws) (i : ℕ) (inside : i < row_width (shape_of p)) where
  each : (r : ℕ) → r < commands p → number_if_artificial (shape_of p) ws i r ≡ is_artificial (limits p) (β r) *ℤ basis_row p a β D U r i
  each r l = rw (H.limits r l, H.basis_rows r i l inside) (chosen (ltb (β r) (limits p)) (basis_row p a β D U r i))

pub summed : (c : Shape) (i : ℕ) (ws : List ℤ) (z : ℤ) → i < row_width c → z ≡ sum c.commands (number_if_artificial c ws i) → ArtificialSum c i ws z
summed c i ws z l e = λ p a β D U s H.
    subst (λ (c : Shape). z ≡ sum c.commands (number_if_artificial c ws i)) s e ∙ sum_cong (commands p) _ _ (each p a β D U ws H i (subst (λ (c : Shape). i < row_width c) s l))
