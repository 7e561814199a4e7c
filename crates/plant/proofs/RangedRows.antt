-- Which limit of a ranged plant stands at a place, and what it answers.
use Rattle.std.proofs.Common.{◌≡◌, ℕ, ◌+◌, ◌-◌, ◌≤◌, ◌⊎◌, List, length, get_or, ℤ, pos, negsuc, Some, None, Option, sym, refl, ap, ◌∙◌, subst, ⊎_elim, arith}
use Rattle.std.specs.List.{slice_get}
use Rattle.std.proofs.lemmas.Option.{slice_get_past}
use Rattle.std.proofs.lemmas.Bool.{ne_eqb, eq-eqb}
use Rattle.words.specs.declared.counts.Shape.{Shape}
use Rattle.plant.specs.Tables.{at_place, within, table, Found}
use Rattle.plant.specs.TableLaws.{length_table, nth_table, nth_front, nth_back, at_absent, table_found}
use Rattle.plant.specs.Meaning.{Limit, Meaning, Bounded, coefficient_of, slope_of}
use Rattle.plant.specs.Ranges.{alone, at_most, at_least, range_limits}
use Rattle.plant.specs.Ranged.{kept_limit, ranged, RowAt}
use Rattle.plant.specs.RangedBounds.{length_ranged, at_some}
use Rattle.plant.specs.declared.row.Row.{Row}
use Rattle.plant.specs.declared.row.Row.TheVariants.{Kept, AtMost, AtLeast}

at_before : {X : Type 0} (xs : List X) (j k : ℕ) → j ≡ k + 1 → at_place xs j ≡ slice_get xs k
at_before xs j k e =
    let back : j - 1 ≡ k = omega arith in
    rw (ne_eqb j 0 (λ z. omega arith), back)

module _ (p : Meaning) (c : Shape) (lows highs : List ℤ) (j : ℕ) (g : Limit → Option ℤ) where
  abbrev rows : List Limit
  rows = (ranged p c lows highs).limits

  ups : ℕ → Limit
  ups i = at_most c i (get_or highs i (pos 0))

  downs : ℕ → Limit
  downs i = at_least c i (get_or lows i (pos 0))

  pub of_kept : RowAt c j (Some Kept) → within (at_place rows j) g ≡ g (kept_limit p c (j - 1))
  of_kept r =
      let n = length_table c.limits (kept_limit p c) in
      let e : at_place rows j ≡ Some (kept_limit p c (j - 1)) = at_before rows j (j - 1) (omega (arith, r.0))
      ∙ nth_front (table c.limits (kept_limit p c)) _ (j - 1) (omega (arith, n, r.0, r.1)) ∙ nth_table c.limits _ (j - 1) (omega (arith, r.0, r.1)) in
      ap (λ o. within o g) e

  pub of_high : (i : ℕ) → RowAt c j (Some (AtMost i)) → within (at_place rows j) g ≡ g (at_most c i (get_or highs i (pos 0)))
  unfolding ups downs
  of_high i r =
      let n = length_table c.limits (kept_limit p c) in
      let m = length_table c.commands ups in
      let k : c.limits + i - length (table c.limits (kept_limit p c)) ≡ i = omega (arith, n) in
      let e : at_place rows j ≡ Some (at_most c i (get_or highs i (pos 0))) = at_before rows j (c.limits + i) r.1
      ∙ nth_back (table c.limits (kept_limit p c)) _ (c.limits + i) (omega (arith, n))
      ∙ ap (slice_get (range_limits c lows highs)) k
      ∙ nth_front (table c.commands ups) _ i (omega (arith, m, r.0)) ∙ nth_table c.commands ups i r.0 in
      ap (λ o. within o g) e

  pub of_low : (i : ℕ) → RowAt c j (Some (AtLeast i)) → within (at_place rows j) g ≡ g (at_least c i (get_or lows i (pos 0)))
  unfolding ups downs
  of_low i r =
      let n = length_table c.limits (kept_limit p c) in
      let m = length_table c.commands ups in
      let k : c.limits + c.commands + i - length (table c.limits (kept_limit p c)) ≡ c.commands + i = omega (arith, n) in
      let l : c.commands + i - length (table c.commands ups) ≡ i = omega (arith, m) in
      let e : at_place rows j ≡ Some (at_least c i (get_or lows i (pos 0))) = at_before rows j (c.limits + c.commands + i) r.1
      ∙ nth_back (table c.limits (kept_limit p c)) _ (c.limits + c.commands + i) (omega (arith, n))
      ∙ ap (slice_get (range_limits c lows highs)) k
      ∙ nth_back (table c.commands ups) _ (c.commands + i) (omega (arith, m))
      ∙ ap (slice_get (table c.commands downs)) l ∙ nth_table c.commands downs i r.0 in
      ap (λ o. within o g) e

  pub of_no_row : RowAt c j None → within (at_place rows j) g ≡ None
  of_no_row r =
      let e : at_place rows j ≡ None = ⊎_elim
      (λ z. rw (eq-eqb j 0 z))
      (λ h. rw (ne_eqb j 0 (λ z. omega arith)) (slice_get_past rows (j - 1) (omega (arith, length_ranged p c lows highs))))
      r in
      ap (λ o. within o g) e

-- A coefficient or a slope of a limit that a range adds.
module _ (p : Meaning) (c : Shape) (lows highs : List ℤ) (j i k : ℕ) where
  pub high_coefficient : (h : ℕ) → RowAt c j (Some (AtMost h)) → Found c.commands i (Some k) → coefficient_of (ranged p c lows highs) j i ≡ Some (alone h (pos 1) k)
  high_coefficient h r f = of_high p c lows highs j (λ l. at_place l.coefficients i) h r ∙ table_found c.commands _ i k f

  pub low_coefficient : (h : ℕ) → RowAt c j (Some (AtLeast h)) → Found c.commands i (Some k) → coefficient_of (ranged p c lows highs) j i ≡ Some (alone h (negsuc 0) k)
  low_coefficient h r f = of_low p c lows highs j (λ l. at_place l.coefficients i) h r ∙ table_found c.commands _ i k f

  pub range_slope : (o : Row) → RowAt c j (Some o) → ((h : ℕ) × (o ≡ AtMost h)) ⊎ ((h : ℕ) × (o ≡ AtLeast h)) → Found c.readings i (Some k) → slope_of (ranged p c lows highs) j i ≡ Some (pos 0)
  range_slope o r w f = ⊎_elim
      (λ e. of_high p c lows highs j (λ l. at_place l.slopes i) e.0 (subst (λ x. RowAt c j (Some x)) e.1 r) ∙ table_found c.readings _ i k f)
      (λ e. of_low p c lows highs j (λ l. at_place l.slopes i) e.0 (subst (λ x. RowAt c j (Some x)) e.1 r) ∙ table_found c.readings _ i k f)
      w

-- Outside the counts of commands or readings no row has a number.
absent_in_each : (o : Option Limit) (g : Limit → Option ℤ) → ((l : Limit) → o ≡ Some l → g l ≡ None) → within o g ≡ None
absent_in_each None g h = refl
absent_in_each (Some l) g h = h l refl

module _ (q : Meaning) (B : Bounded q) (j i : ℕ) where
  pub no_coefficient : Found (length q.gains) i None → coefficient_of q j i ≡ None
  no_coefficient f = absent_in_each (at_place q.limits j) (λ l. at_place l.coefficients i)
      (λ l e. at_absent l.coefficients (length q.gains) i (sym (B.limits (j - 1) l (at_some q.limits j l e)).wide) f)

  pub no_slope : Found q.readings i None → slope_of q j i ≡ None
  no_slope f = absent_in_each (at_place q.limits j) (λ l. at_place l.slopes i)
      (λ l e. at_absent l.slopes q.readings i (sym (B.limits (j - 1) l (at_some q.limits j l e)).deep) f)

-- A number asked of the plant below, at places that count from 1.
pub asked_below : {X : Type 0} (f : ℕ → ℕ → X) (j i k : ℕ) → 1 ≤ j → i ≡ k + 1 → f (j - 1 + 1) (k + 1) ≡ f j i
asked_below f j i k h e = let back : j - 1 + 1 ≡ j = omega arith in rw (back, e)

pub asked_of_limit : {X : Type 0} (f : ℕ → X) (j : ℕ) → 1 ≤ j → f (j - 1 + 1) ≡ f j
asked_of_limit f j h = let back : j - 1 + 1 ≡ j = omega arith in rw back

pub alone_here : (i k : ℕ) (z : ℤ) → k ≡ i → alone i z k ≡ z
alone_here i k z h = rw (eq-eqb k i h)

pub alone_elsewhere : (i k : ℕ) (z : ℤ) → (k ≡ i → ⊥) → alone i z k ≡ pos 0
alone_elsewhere i k z h = rw (ne_eqb k i h)
