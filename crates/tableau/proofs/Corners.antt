-- The best command of a corner, and none better than standing still.
use Prim.Native.Nat.{ℕ, suc, ◌<◌}
use mathlib.Core.Path.{◌≡◌, sym, ap, ◌∙◌}
use mathlib.Core.List.{List}
use mathlib.Core.Logic.{inl, inr}
use native.Mathlib.Omega.{arith}
use lib.IntN.{ℤ, pos, ◌-ℤ◌, ◌*ℤ◌, *ℤ_comm}
use lib.Signed.{◌<ℤ◌, ◌≤ℤ◌}
use Rattle.exact.specs.Vectors.{dot}
use Rattle.exact.proofs.Ring.{lin, expand, cancel, cancel≤}
use Rattle.exact.proofs.Sums.{dot_cong, dot_scale}
use Rattle.exact.proofs.Positive.{pos_cong, pos_unscale}
use Rattle.exact.proofs.Values.{value_scale}
use Rattle.exact.proofs.Divides.{div_pos}
use Rattle.plant.specs.Meaning.{Meaning}
use Rattle.plant.specs.Commands.{Command, Same, KeepsAll, Better, Best, column, side, value}
use Rattle.tableau.specs.Plants.{commands}
use Rattle.tableau.specs.Readings.{command_at, IsInLowestTerms}
use Rattle.tableau.specs.TheoremsCorner.{RegionGivesTheBest, LowestTermsAreBest, NoRowMeansNoCommand, CornerExcludesBetterDirections}
use Rattle.tableau.proofs.Simplex.{best, no_command, no_free}
use Rattle.tableau.proofs.Readings.{plant_value, command_side, slack_side}

pub region_best : RegionGivesTheBest
region_best p θ X region = record { keeps = keeps; better = better }
  where
    keeps : KeepsAll p θ (command_at p X θ)
    keeps j l = omega (arith, lin, region j l, slack_side p θ X j, dot_cong (commands p) (column p j) _ _ (λ c k. command_side p θ X.β X.U c))

    better : (w : Command) → KeepsAll p θ w → (Same p (command_at p X θ) w → ⊥) → Better p (command_at p X θ) w
    better w keep other = elim (best (commands p) (column p) X.β X.D X.U X.inverse (suc (commands p)) (value p) (plant_value p) (side p θ) X.rows w.numerators w.denominator
        (λ r l. keep (X.β r) (X.known r l))) [
          | inl e ↦ absurd (other (λ i l. ap (λ z. z *ℤ w.denominator) (command_side p θ X.β X.U i) ∙ *ℤ_comm _ w.denominator ∙ sym (e i l) ∙ *ℤ_comm X.D (w.numerators i)))
          | inr b ↦ pos_cong (suc (commands p)) _ _ (λ i l. ap (λ z. w.denominator *ℤ z -ℤ X.D *ℤ value p w.numerators i) ((plant_value p).cong _ _ (λ c k. sym (command_side p θ X.β X.U c)) i l)) b
        ]

scaled_keeps : (c s h x y : ℤ) → pos 0 <ℤ c → c *ℤ x ≡ y → y ≤ℤ ((c *ℤ s) *ℤ h) → x ≤ℤ (s *ℤ h)
scaled_keeps c s h x y pc e k = cancel≤ x (s *ℤ h) c pc (omega (arith, lin, *ℤ_comm c x, simp expand at k, e, turn c s h))
  where
    turn : (c s h : ℤ) → (s *ℤ h) *ℤ c ≡ (c *ℤ s) *ℤ h
    turn c s h = simp expand

scaled_better : (c s t s' x y z : ℤ) → c *ℤ x ≡ z → c *ℤ s ≡ s' → t *ℤ z -ℤ s' *ℤ y ≡ c *ℤ (t *ℤ x -ℤ s *ℤ y)
scaled_better c s t s' x y z e f = rw (← e, ← f) (simp expand (omega (arith, lin)))

-- Divided by a common factor, the best command stays the best.
pub best_lowest : (p : Meaning) (θ : List ℤ) (v w : Command) → Best p θ v → IsInLowestTerms p v w → Best p θ w
best_lowest p θ v w b low = record { keeps = keeps; better = better }
  where
    d : ℤ
    d = low.divisor

    positive : pos 0 <ℤ d
    positive = div_pos d v.denominator low.greatest.nonneg v.above (w.denominator, sym low.denominator)

    keeps : KeepsAll p θ w
    keeps j l = scaled_keeps d w.denominator (side p θ j) (dot (commands p) (column p j) w.numerators) (dot (commands p) (column p j) v.numerators) positive
        (sym (dot_scale (commands p) d (column p j) w.numerators) ∙ dot_cong (commands p) (column p j) _ _ low.numerators) (rw low.denominator (b.keeps j l))

    same : (u : Command) → Same p v u → Same p w u
    same u e i l = cancel _ _ d positive (by (w.numerators i) u.denominator ∙ ap (λ z. z *ℤ u.denominator) (low.numerators i l) ∙ e i l ∙ ap (λ z. u.numerators i *ℤ z) (sym low.denominator) ∙ by' (u.numerators i) w.denominator)
      where
        by : (x y : ℤ) → (x *ℤ y) *ℤ d ≡ (d *ℤ x) *ℤ y
        by x y = simp expand

        by' : (x y : ℤ) → x *ℤ (d *ℤ y) ≡ (x *ℤ y) *ℤ d
        by' x y = simp expand

    better : (u : Command) → KeepsAll p θ u → (Same p w u → ⊥) → Better p w u
    better u keep other = pos_unscale (suc (commands p)) d _ positive (pos_cong (suc (commands p)) _ _ (λ i l. scaled_better d w.denominator u.denominator v.denominator (value p w.numerators i) (value p u.numerators i) (value p v.numerators i) (scaled i l) low.denominator) (b.better u keep (λ e. other (same u e))))
      where
        scaled : (i : ℕ) → i < suc (commands p) → d *ℤ value p w.numerators i ≡ value p v.numerators i
        scaled i l = sym (value_scale (commands p) (suc (commands p)) (value p) (plant_value p) d w.numerators i l) ∙ (plant_value p).cong _ _ low.numerators i l

pub lowest_best : LowestTermsAreBest
lowest_best p θ X v region low = best_lowest p θ (command_at p X θ) v (region_best p θ X region) low

pub blocked_no_command : NoRowMeansNoCommand
blocked_no_command p θ X j l short blocked v keeps =
    no_command (commands p) (column p) X.β X.D X.U X.inverse (side p θ) j (omega (arith, lin, short, slack_side p θ X j)) blocked v.numerators v.denominator v.above
    (λ r k. keeps (X.β r) (X.known r k)) (keeps j l)

pub no_better : CornerExcludesBetterDirections
no_better p y X free better = no_free (commands p) (column p) X.β X.D X.U X.inverse (suc (commands p)) (value p) (plant_value p) X.rows y (λ r l. free (X.β r) (X.known r l)) better
