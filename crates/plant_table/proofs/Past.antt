-- What a plant in bounds answers at places past its counts: nothing.
use Rattle.std.proofs.Common.{◌≡◌, ℕ, ◌+◌, ◌-◌, ◌<◌, ◌≤◌, inr, ℤ, Some, None, Option, sym, refl, arith}
use Rattle.plant.specs.Meaning.{Limit, Meaning, Fits, Bounded, shape_of, gain_of, coefficient_of, constant_of, slope_of}
use Rattle.plant.specs.RangedBounds.{at_some}
use Rattle.plant.specs.TableLaws.{at_absent}
use Rattle.plant.specs.Tables.{at_place, within}
use Rattle.tableau.specs.Plants.{commands, limits}

within_none : (o : Option Limit) (g : Limit → Option ℤ) → ((l : Limit) → o ≡ Some l → g l ≡ None) → within o g ≡ None
within_none None g n = refl
within_none (Some l) g n = n l refl

module _ (p : Meaning) where
  pub gain_past : (i : ℕ) → commands p ≤ i → gain_of p (i + 1) ≡ None
  gain_past i h = at_absent p.gains (commands p) (i + 1) refl (inr (omega arith))

  limit_past : (j : ℕ) (g : Limit → Option ℤ) → limits p < j → within (at_place p.limits j) g ≡ None
  limit_past j g h = let none : at_place p.limits j ≡ None = at_absent p.limits (limits p) j refl (inr h) in rw none

  pub coefficient_past_limits : (j i : ℕ) → limits p < j → coefficient_of p j i ≡ None
  coefficient_past_limits j i h = limit_past j (λ l. at_place l.coefficients i) h

  pub slope_past_limits : (j k : ℕ) → limits p < j → slope_of p j k ≡ None
  slope_past_limits j k h = limit_past j (λ l. at_place l.slopes k) h

  pub constant_past : (j : ℕ) → limits p ≤ j → constant_of p (j + 1) ≡ None
  constant_past j h = limit_past (j + 1) (λ l. Some l.constant) (omega arith)

  module _ (B : Bounded p) where
    fits_at : (j : ℕ) (l : Limit) → at_place p.limits j ≡ Some l → Fits (shape_of p) l
    fits_at j l e = B.limits (j - 1) l (at_some p.limits j l e)

    pub coefficient_past : (j i : ℕ) → commands p ≤ i → coefficient_of p j (i + 1) ≡ None
    coefficient_past j i h = within_none (at_place p.limits j) (λ l. at_place l.coefficients (i + 1))
        (λ l e. at_absent l.coefficients (commands p) (i + 1) (sym (fits_at j l e).wide) (inr (omega arith)))

    pub slope_past : (j k : ℕ) → p.readings ≤ k → slope_of p j (k + 1) ≡ None
    slope_past j k h = within_none (at_place p.limits j) (λ l. at_place l.slopes (k + 1))
        (λ l e. at_absent l.slopes p.readings (k + 1) (sym (fits_at j l e).deep) (inr (omega arith)))
