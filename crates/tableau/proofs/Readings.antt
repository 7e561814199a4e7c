-- What a corner says at a reading is what it says for the right sides at that reading.
use Prim.Native.Nat.{ℕ, zero, suc, ◌<◌}
use mathlib.Core.Path.{◌≡◌, refl, sym, ◌∙◌}
use mathlib.Core.List.{List}
use native.Mathlib.Omega.{arith}
use lib.IntN.{ℤ, pos, ◌+ℤ◌, ◌*ℤ◌}
use Rattle.exact.specs.Vectors.{dot, entries}
use Rattle.exact.specs.Value.{Value}
use Rattle.exact.proofs.Ring.{lin, one-*}
use Rattle.exact.proofs.Sums.{dot_cong, dot_comm, dot_linear}
use Rattle.plant.specs.Meaning.{Meaning}
use Rattle.plant.specs.Commands.{limit_at, column, side, value}
use Rattle.tableau.specs.Points.{point, slack}
use Rattle.tableau.specs.Plants.{commands, rate, with_one, CornerOf}
use Rattle.tableau.specs.Tableau.{law}
use Rattle.tableau.specs.Readings.{at_reading, slack_at}
use Rattle.tableau.proofs.Points.{sum_first, point_comb, slack_comb}

-- The value list of a plant is a value list.
pub plant_value : (p : Meaning) → Value (commands p) (suc (commands p)) (value p)
plant_value p = record { wide = omega arith; cong = co; linear = li; faithful = λ x z c l. z (suc c) (omega arith) }
  where
    co : (x y : ℕ → ℤ) → ((c : ℕ) → c < commands p → x c ≡ y c) → (i : ℕ) → i < suc (commands p) → value p x i ≡ value p y i
    co x y h zero l = dot_cong (commands p) (entries p.gains) x y h
    co x y h (suc c) l = h c (omega arith)

    li : (s t : ℤ) (x y : ℕ → ℤ) (i : ℕ) → i < suc (commands p) → value p (λ c. s *ℤ x c +ℤ t *ℤ y c) i ≡ s *ℤ value p x i +ℤ t *ℤ value p y i
    li s t x y zero l = dot_linear (commands p) (entries p.gains) s t x y
    li s t x y (suc c) l = refl

module _ (p : Meaning) (θ : List ℤ) where
  -- The side of a limit is the sum of θ_k e_jk.
  pub side_sum : (j : ℕ) → side p θ j ≡ at_reading p θ (λ k. rate p k j)
  unfolding dot
  side_sum j = sym (sum_first p.readings (λ k. with_one θ k *ℤ rate p k j)
      ∙ omega (arith, lin, one-* (limit_at p j).constant, dot_comm p.readings (entries θ) (entries (limit_at p j).slopes)))

  pub command_side : (β : ℕ → ℕ) (U : ℕ → ℕ → ℤ) (i : ℕ) → at_reading p θ (λ k. law p β U k i) ≡ point (commands p) β U (side p θ) i
  command_side β U i = point_comb (commands p) (column p) β (pos 1) U (suc p.readings) (with_one θ) (rate p) (side p θ) (λ r l. side_sum (β r)) i

  pub slack_side : (X : CornerOf p) (j : ℕ) → slack_at p X θ j ≡ slack (commands p) (column p) X.β X.D X.U (side p θ) j
  slack_side X j = slack_comb (commands p) (column p) X.β X.D X.U (suc p.readings) (with_one θ) (rate p) (side p θ) (λ r l. side_sum (X.β r)) j (side_sum j)
